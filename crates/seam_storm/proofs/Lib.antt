pub mod StormLemmas
