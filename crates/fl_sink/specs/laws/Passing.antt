-- What passes through a buffer in steps passes in one, and what is cut after some passed is cut.
use Rattle.std.specs.Prelude.{◌++◌, List, [], ℕ, Option, refl}
use Rattle.std.proofs.Common.{◌∙◌, sym, ap, subst, Result, Ok, Err}
use Rattle.std.proofs.lemmas.List.{append_assoc, append-nil}
use Rattle.std.specs.Result.{IsErr, OnErr}
use Rattle.std.proofs.KnownBytes.{Appends-trans, Appends-nil}
use Rattle.fl_sink.specs.Sink.{Passes, Cuts, Puts}

-- what holds whatever the result is
pub on_err_always : {T E P : Type 0} (r : Result T E) → P → OnErr r P
on_err_always (Ok x) p = tt
on_err_always (Err e) p = p

-- nothing is written yet
pub passes_none : (a : Option (List ℕ)) (pending bytes : List ℕ) → Passes a a pending bytes (pending ++ bytes)
passes_none a pending bytes = record { front = []; split = refl; written = Appends-nil a }

-- more bytes pass after some
pub passes_then : {a b : Option (List ℕ)} {pending bytes rest : List ℕ} (c : Option (List ℕ)) (more after : List ℕ) → Passes a b pending bytes rest → Passes b c rest more after → Passes a c pending (bytes ++ more) after
passes_then {a} {b} {pending} {bytes} {rest} c more after p q = record {
  front = p.front ++ q.front;
  split = sym (append_assoc pending bytes more) ∙ ap (λ x. x ++ more) p.split ∙ append_assoc p.front rest more ∙ ap (λ x. p.front ++ x) q.split ∙ sym (append_assoc p.front q.front after);
  written = Appends-trans a b c p.front q.front p.written q.written;
}

-- a front of more bytes passes after some, whatever would follow
pub cuts_then : {a b : Option (List ℕ)} {pending bytes rest : List ℕ} (c : Option (List ℕ)) (more last : List ℕ) → Passes a b pending bytes rest → Cuts b c rest more → Cuts a c pending (bytes ++ (more ++ last))
cuts_then {a} {b} {pending} {bytes} {rest} c more last p q = record {
  front = p.front ++ q.front;
  rest = q.rest ++ last;
  split = sym (append_assoc pending bytes (more ++ last)) ∙ ap (λ x. x ++ (more ++ last)) p.split ∙ append_assoc p.front rest (more ++ last) ∙ ap (λ x. p.front ++ x) (sym (append_assoc rest more last) ∙ ap (λ x. x ++ last) q.split ∙ append_assoc q.front q.rest last) ∙ sym (append_assoc p.front q.front (q.rest ++ last));
  written = Appends-trans a b c p.front q.front p.written q.written;
}

-- what passed may be all that did
pub cuts_passed : {a b : Option (List ℕ)} {pending bytes rest : List ℕ} (last : List ℕ) → Passes a b pending bytes rest → Cuts a b pending (bytes ++ last)
cuts_passed {a} {b} {pending} {bytes} {rest} last p = record {
  front = p.front;
  rest = rest ++ last;
  split = sym (append_assoc pending bytes last) ∙ ap (λ x. x ++ last) p.split ∙ append_assoc p.front rest last;
  written = p.written;
}

-- cut in its front
pub cuts_front : {a b : Option (List ℕ)} {pending text : List ℕ} (more : List ℕ) → Cuts a b pending text → Cuts a b pending (text ++ more)
cuts_front {a} {b} {pending} {text} more p = record {
  front = p.front;
  rest = p.rest ++ more;
  split = sym (append_assoc pending text more) ∙ ap (λ x. x ++ more) p.split ∙ append_assoc p.front p.rest more;
  written = p.written;
}

-- cut in what comes behind it
pub cuts_behind : {a b c : Option (List ℕ)} {pending text rest more : List ℕ} → Passes a b pending text rest → Cuts b c rest more → Cuts a c pending (text ++ more)
cuts_behind {a} {b} {c} {pending} {text} {rest} {more} p q = subst (λ x. Cuts a c pending (text ++ x)) (append-nil more) (cuts_then c more [] p q)

-- a text passed, and then more is put
pub puts_then : {T E : Type 0} {a b c : Option (List ℕ)} {pending text rest more after : List ℕ} {r : Result T E} → Passes a b pending text rest → Puts b c rest more after r → Puts a c pending (text ++ more) after r
puts_then {c = c} {more = more} {after = after} {r = Ok x} p q = record { is = passes_then c more after p q.is }
puts_then {r = Err e} p q = record { is = cuts_behind p q.is }

-- a text was cut, and no more is put
pub puts_stop : {T E : Type 0} {a b : Option (List ℕ)} {pending text : List ℕ} {r : Result T E} (more after : List ℕ) → Cuts a b pending text → IsErr r → Puts a b pending (text ++ more) after r
puts_stop {r = Ok x} more after p err = cc
puts_stop {r = Err e} more after p err = record { is = cuts_front more p }
