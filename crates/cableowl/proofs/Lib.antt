-- Laws of the C ABI's definitions.
pub mod Few
pub mod Answers
pub mod Takes
pub mod Results
pub mod Kept
pub mod Unknown
pub mod Parts
pub mod Numbers
pub mod ReplaySteps
pub mod ReplayStepsV2
