-- A message between safe endpoints of a safe pair is safe between their processes.
use Rattle.std.proofs.Common.{◌≡◌, ◌⊎◌, inl, inr, Bool, true, false, refl}
use Rattle.fl_labels.specs.declared.name.Name.{Name}
use Rattle.fl_labels.specs.Name.{name_cmp}
use Rattle.fl_labels.specs.SetBy.{SetBy, In, IsMissing, contains}
use Rattle.fl_labels.specs.Found.{Within}
use Rattle.fl_labels.specs.Caps.{Caps, Dual}
use Rattle.fl_rules.specs.declared.labels.Labels.{Labels}
use Rattle.fl_rules.specs.Endpoint.{SafeEndpoint, SafeRead, SafeWrite}
use Rattle.fl_rules.specs.laws.Endpoints.{endpoint_more}
use Rattle.fl_rules.specs.Pair.{End, SafePair}
use Rattle.fl_rules.specs.Message.{SafeMessage}

-- the members of s that t lacks are in D
beside : (D : Name → Type 0) (s t : SetBy name_cmp) → Within (IsMissing s t) D → (tag : Name)
    → In s tag
    → In t tag ⊎ D tag
beside D s t all tag h = go (contains t tag) refl
  where
    go : (b : Bool) → contains t tag ≡ b → In t tag ⊎ D tag
    go true e = inl e
    go false e = inr (all tag (record { here = h; not_there = e }))

-- a message between endpoints of a safe pair
between : (E F : Caps) (p q : Labels) (e f : End) → SafeWrite E p e.labels → SafeRead F q f.labels
    → SafePair e f
    → SafeMessage E p F q
between E F p q e f write read pair = record {
  secrecy = λ tag h n. elim
      (beside (Dual E) p.secrecy e.labels.secrecy (λ t m. write t (inl m)) tag h) [
        | inl sent ↦ beside (Dual F) f.labels.secrecy q.secrecy (λ t m. read t (inl m)) tag
            (pair.secrecy tag sent)
        | inr d ↦ absurd (n d)
      ];
  integrity = λ tag h n. elim
      (beside (Dual F) q.integrity f.labels.integrity (λ t m. read t (inr m)) tag h) [
        | inl asked ↦ beside (Dual E) e.labels.integrity p.integrity (λ t m. write t (inr m)) tag
            (pair.integrity tag asked)
        | inr d ↦ absurd (n d)
      ];
}

pub message_safe : {E F more_E more_F : Caps} {p q : Labels} {e f : End} → Within E more_E
    → Within F more_F
    → SafeEndpoint E e.mode p e.labels → SafeEndpoint F f.mode q f.labels → SafePair e f
    → SafeMessage more_E p more_F q
message_safe {E} {F} {more_E} {more_F} {p} {q} {e} {f} from_E from_F sender receiver pair =
    between more_E more_F p q e f ((endpoint_more from_E sender).write pair.writable)
    ((endpoint_more from_F receiver).read pair.readable) pair
