-- What is put into a sink in which nothing waited, and written then.
use Rattle.std.proofs.Common.{◌++◌, ◌∙◌, sym, ap, subst, ℕ, List, [], Option, Result, Ok, Err}
use Rattle.std.proofs.KnownBytes.{Appends-kept, Appends-trans}
use Rattle.std.proofs.lemmas.List.{append-nil, append_assoc}
use Rattle.std.specs.Io.KnownBytes.{Appends, Keeps}
use Rattle.std.specs.Result.{IsErr}
use Rattle.fl_sink.specs.Sink.{Cuts, Passes, Writes}

-- a front of the text was written
pub writes_stop : {T E : Type 0} {a b : Option (List ℕ)} {text : List ℕ} {r : Result T E}
    → Cuts a b [] text → IsErr r → Writes a b text r
writes_stop {r = Ok x} cut err = absurd (cc)
writes_stop {r = Err e} cut err = record { is = cut }

-- all of it was put, and what waits is written
pub writes_after : {T E : Type 0} {a b c : Option (List ℕ)} {text rest : List ℕ} {r : Result T E}
    → Passes a b [] text rest → Writes b c rest r → Writes a c text r
writes_after {a = a} {b = b} {c = c} {rest = rest} {r = Ok x} p w =
    record {
      is = subst (λ l. Appends a c l) (sym p.split)
          (Appends-trans a b c p.front rest p.written w.is);
    }
writes_after {a = a} {b = b} {c = c} {rest = rest} {r = Err e} p w =
    record {
      is = record {
        front = p.front ++ w.is.front;
        rest = w.is.rest;
        split = p.split ∙ ap (λ l. p.front ++ l) w.is.split
            ∙ sym (append_assoc p.front w.is.front w.is.rest);
        written = Appends-trans a b c p.front w.is.front p.written w.is.written;
      };
    }

-- all of it was written, and stayed, whatever came of what was done then
pub writes_kept : {T E : Type 0} (r : Result T E) (a b c : Option (List ℕ)) (text : List ℕ)
    → Appends a b text → Keeps b c → Writes a c text r
writes_kept (Ok x) a b c text first kept = record { is = Appends-kept a b c text first kept }
writes_kept (Err e) a b c text first kept =
    record {
      is = record {
        front = text;
        rest = [];
        split = sym (append-nil text);
        written = Appends-kept a b c text first kept;
      };
    }
