pub mod ContentCode
