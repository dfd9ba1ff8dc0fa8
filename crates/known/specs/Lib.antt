-- The known values marked P: one table, and one claim that every row of it holds.
pub mod Known
