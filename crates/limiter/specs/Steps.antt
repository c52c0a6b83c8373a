-- What the private functions of the limiter promise, step by step. No promise of a public function cites these definitions: the laws in proofs/ show
-- that the steps make up the calls.
pub mod Scan
pub mod KeySteps
pub mod CheckSteps
pub mod TraceSteps
pub mod PassTwoSteps
pub mod ReaderSteps
pub mod PassOneSteps
pub mod ManySteps
pub mod ListSteps
pub mod TickSteps
