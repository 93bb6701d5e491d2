-- What only the rule of a history cites. A clause can cite only `pub` modules.
pub mod Counting
