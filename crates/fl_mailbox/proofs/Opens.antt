-- Open endpoints, as their table tells of them.
use Rattle.std.proofs.Common.{arith, ℕ, ◌≡◌, ◌⊎◌, inl, inr, ◌+◌, ◌<◌, List, true, false, is_some, refl, sym, ap, ◌∙◌, Option, Some, None, Ordering, Less, Equal, Greater}
use Rattle.std.specs.Cmp.{ranked}
use Rattle.std.specs.FinMap as map
use Rattle.std.specs.BTreeMap.{is_at}
use Rattle.std.specs.Map.{lookup, set_value}
use Rattle.std.specs.Ordering.{is_gt, nat_cmp}
use Rattle.std.proofs.lemmas.Bool.{false≢true}
use Rattle.std.proofs.Math.Nat.{eq-or-lt_of_le}
use Rattle.fl_labels.specs.Endpoint.{endpoint_cmp, endpoint_total, endpoint_exact}
use Rattle.fl_labels.specs.declared.endpoint.Endpoint.{Endpoint}
use Rattle.fl_rules.specs.declared.labels.Labels.{Labels}
use Rattle.fl_mailbox.specs.Endpoints.{Table, IsOpen, IsLeastFree}
use Rattle.fl_mailbox.specs.declared.endpoints.OpenEndpoint.{OpenEndpoint}
use Rattle.fl_mailbox.specs.laws.Tables.{get_held, put_through}

pub same_some : {A : Type 0} (x y : A) → Some x ≡ Some y → x ≡ y
same_some x y e = cc

some_none : {A : Type 0} (x : A) → Some x ≡ None → ⊥
some_none x e = cc

not_greater : (a b : ℕ) → ¬ (b < a) → is_gt (nat_cmp a b) ≡ false
not_greater a b h = go (nat_cmp a b) refl
  where
    go : (r : Ordering) → r ≡ nat_cmp a b → is_gt r ≡ false
    go Less e = refl
    go Equal e = refl
    go Greater e = absurd (h (ranked a b Greater e))

module _ (es : List (Endpoint × OpenEndpoint)) where
  pub relabelled : (fs : List (Endpoint × OpenEndpoint)) (table : Table) (e : Endpoint) (now opened : OpenEndpoint) (labels : Labels)
      → map.from_entries es ≡ table
      → lookup (is_at (endpoint_cmp e)) es ≡ Some now
      → fs ≡ set_value (is_at (endpoint_cmp e)) es (record { mode = now.mode; labels = labels })
      → map.get table e ≡ Some opened
      → map.from_entries fs ≡ map.insert table e (record opened { labels = labels })
  relabelled fs table e now opened labels view found through there =
      put_through endpoint_total endpoint_exact es fs table e now _ view found through
      ∙ ap (λ (o : OpenEndpoint). map.insert table e (record o { labels = labels })) (same_some now opened (sym found ∙ get_held endpoint_total endpoint_exact es table e view ∙ there))

  pub absent_open : (table : Table) (e : Endpoint) (opened : OpenEndpoint) → map.from_entries es ≡ table
      → None ≡ lookup (is_at (endpoint_cmp e)) es → map.get table e ≡ Some opened → ⊥
  absent_open table e opened view found there =
      some_none opened (sym there ∙ sym (get_held endpoint_total endpoint_exact es table e view) ∙ sym found)

  pub there_absent : (table : Table) (e : Endpoint) (now : OpenEndpoint) → map.from_entries es ≡ table
      → lookup (is_at (endpoint_cmp e)) es ≡ Some now → map.get table e ≡ None → ⊥
  there_absent table e now view found none =
      some_none now (sym found ∙ get_held endpoint_total endpoint_exact es table e view ∙ none)

one_further : (m n : ℕ) → m < n + 1 → (m ≡ n) ⊎ (m < n)
one_further m n h = eq-or-lt_of_le {n = m} {m = n} (omega (arith, h))

-- the search for one that is not open, in order
module _ (es : List (Endpoint × OpenEndpoint)) (table : Table) (view : map.from_entries es ≡ table) where
  pub passed_open : (n : ℕ) → true ≡ is_some (lookup (is_at (λ k. nat_cmp n k.number)) es)
      → ((e : Endpoint) → e.number < n → IsOpen table e) → (e : Endpoint) → e.number < n + 1 → IsOpen table e
  passed_open n there before e below = elim (one_further e.number n below) [
    | inl same ↦ is_open (map.get table e) refl (there ∙ ap (λ m. is_some (lookup (is_at (λ (k : Endpoint). nat_cmp m k.number)) es)) (sym same) ∙ ap is_some (get_held endpoint_total endpoint_exact es table e view))
    | inr less ↦ before e less
  ]
    where
      is_open : (found : Option OpenEndpoint) → map.get table e ≡ found → true ≡ is_some found → IsOpen table e
      is_open None is some = absurd (cc)
      is_open (Some opened) is some = (opened, is)

  pub stopped_free : (e : Endpoint) → false ≡ is_some (lookup (is_at (endpoint_cmp e)) es)
      → ((d : Endpoint) → d.number < e.number → IsOpen table d) → IsLeastFree table (Some e)
  stopped_free e free before = record {
    is = record {
      member = tt;
      lacking =
          λ opened. false≢true (free ∙ ap is_some (get_held endpoint_total endpoint_exact es table e view ∙ opened.1));
      least = λ d _ closed. not_greater e.number d.number (λ below. closed (before d below));
    };
  }

pub none_free : (table : Table) (n : ℕ) → 64 < n → ((e : Endpoint) → e.number < n → IsOpen table e)
    → IsLeastFree table None
none_free table n past all = record { is = λ e _. all e (omega (arith, past, e.number_in_range.1)) }
