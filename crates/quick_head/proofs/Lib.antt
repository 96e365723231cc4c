pub mod QuickHeadCode
