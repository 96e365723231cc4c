pub mod QuickHeads
