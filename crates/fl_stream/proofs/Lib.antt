pub mod HearLemmas
