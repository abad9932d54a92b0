-- What is written, in steps.
use Rattle.std.proofs.Common.{◌≡◌, ◌++◌, ◌∙◌, sym, ap, List, [], ℕ, take, drop, Option, Result, Ok, Err}
use Rattle.std.proofs.lemmas.List.{append_assoc, append-nil, take-append-drop}
use Rattle.std.proofs.KnownBytes.{Appends-trans}
use Rattle.std.specs.Io.KnownBytes.{Appends}
use Rattle.fl_sink.specs.Sink.{Passes, Cuts, Puts, Writes}
use Rattle.fl_sink.specs.laws.Passing.{passes_none}

-- n more bytes of what is left are written
pub passes_more : {a b : Option (List ℕ)} {pending bytes rest : List ℕ} (c : Option (List ℕ)) (n : ℕ) → Passes a b pending bytes rest → Appends b c (take n rest) → Passes a c pending bytes (drop n rest)
passes_more {a} {b} {pending} {bytes} {rest} c n p w = record {
  front = p.front ++ take n rest;
  split = p.split ∙ ap (λ x. p.front ++ x) (sym (take-append-drop n rest)) ∙ sym (append_assoc p.front (take n rest) (drop n rest));
  written = Appends-trans a b c p.front (take n rest) p.written w;
}

-- all that was pending was written, and then a front of the bytes
pub passes_after : (a b c : Option (List ℕ)) (pending bytes after : List ℕ) → Appends a b pending → Passes b c [] bytes after → Passes a c pending bytes after
passes_after a b c pending bytes after w p = record {
  front = pending ++ p.front;
  split = ap (λ x. pending ++ x) p.split ∙ sym (append_assoc pending p.front after);
  written = Appends-trans a b c pending p.front w p.written;
}

-- a front of what was pending was written
pub cuts_before : (a b : Option (List ℕ)) (pending bytes : List ℕ) → Cuts a b [] pending → Cuts a b pending bytes
cuts_before a b pending bytes p = record {
  front = p.front;
  rest = p.rest ++ bytes;
  split = ap (λ x. x ++ bytes) p.split ∙ append_assoc p.front p.rest bytes;
  written = p.written;
}

-- all was written
pub passes_all : (a b : Option (List ℕ)) (bytes : List ℕ) → Appends a b bytes → Passes a b [] bytes []
passes_all a b bytes w = record { front = bytes; split = sym (append-nil bytes); written = w }

-- all that was pending was written, and then a front of the bytes
pub cuts_after : (a b c : Option (List ℕ)) (pending bytes : List ℕ) → Appends a b pending → Cuts b c [] bytes → Cuts a c pending bytes
cuts_after a b c pending bytes w p = record {
  front = pending ++ p.front;
  rest = p.rest;
  split = ap (λ x. pending ++ x) p.split ∙ sym (append_assoc pending p.front p.rest);
  written = Appends-trans a b c pending p.front w p.written;
}

-- what waited was written, and then the text is
pub puts_written : {T E : Type 0} {a b c : Option (List ℕ)} {pending text rest : List ℕ} {r : Result T E} → rest ≡ [] → Appends a b pending → Writes b c text r → Puts a c pending text rest r
puts_written {a = a} {b = b} {c = c} {pending = pending} {text = text} {r = Ok x} none w v =
    rw none (record { is = passes_after a b c pending text [] w (passes_all b c text v.is) })
puts_written {a = a} {b = b} {c = c} {pending = pending} {text = text} {r = Err e} none w v = record { is = cuts_after a b c pending text w v.is }

pub ruleset passes = (passes_none, passes_after, passes_all, cuts_before)
