-- Every claim once more, with the type of each field of each record that the claims reach written out over the definitions' own names: a field that
-- is narrowed, halved, lost or given another condition fails here, though `claims` would still be proved. The conditions that claims stand under are
-- also made from their parts (Conditions, and Complex for its own): one that asks for more fails there. Types that are abbreviations, as
-- `SharesKept`, are never cited by name but written out. What is changed in a definition that is no type is not seen here.
-- tools/restated.py lists the fields that have no restatement.
pub mod Conditions
pub mod Words
pub mod Runs
pub mod Heads
pub mod Secrecy
pub mod Numbers
pub mod Plans
pub mod OnShares
pub mod Complex
pub mod RandomWords
pub mod Examples
