pub mod EmitCode
