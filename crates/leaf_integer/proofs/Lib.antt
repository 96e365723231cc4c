mod DigitCode
mod IntegerCode
