-- What only private functions promise or ask: steps of the code. No public promise rests on them.
pub mod Readying
