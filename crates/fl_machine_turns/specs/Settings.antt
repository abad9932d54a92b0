-- How the process of a machine was started.
use Rattle.std.specs.Prelude.{ℕ, Bool, List}
use Rattle.fl_seal.specs.declared.seal.Key.{Key}

pub record Settings : Type 0 where
  -- the machine's number, which is its node's
  pub number : ℕ
  -- the first seals what is sent, each opens what comes; without one nothing is sealed
  pub keys : List Key
  -- whether an order asks first what an emission asks
  pub guards : Bool

abbrev pub settings_of : ℕ → List Key → Bool → Settings
settings_of number keys guards = record { number = number; keys = keys; guards = guards }
