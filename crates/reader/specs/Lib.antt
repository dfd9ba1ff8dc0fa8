-- What the reader of a journal promises, in definitions and statements alone.
pub mod Reader
pub mod SameAnswers
