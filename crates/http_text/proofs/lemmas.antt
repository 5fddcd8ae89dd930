-- What is proved of the definitions, for the proofs of functions.
pub mod CuttingLemmas
pub mod HeadLemmas
pub mod JsonBodyLemmas
pub mod JsonLemmas
pub mod EndLemmas
pub mod NumberTextLemmas
pub mod OrderLemmas
pub mod PathLemmas
pub mod StepLemmas
pub mod TableLemmas
pub mod TextLemmas
