-- What a witness shows is in effect, and stays so.
use Rattle.std.proofs.Common.{inl}
use Rattle.fl_labels.specs.Caps.{Caps}
use Rattle.fl_labels.specs.Found.{Within}
use Rattle.fl_labels.specs.declared.cap.Cap.{Cap}
use Rattle.fl_labels.specs.declared.cap.Cap.TheVariants.{Use}
use Rattle.fl_ops.specs.Registry.{Registry, InEffect}
use Rattle.fl_ops.specs.laws.Reaching.{from_chain, reach_more, eff_more}
use Rattle.fl_closure.specs.declared.rows.Owner.{Owner}
use Rattle.fl_closure.specs.declared.rows.Owner.TheVariants.{Everybody, Group}
use Rattle.fl_closure.specs.declared.witness.Witness.{Witness}
use Rattle.fl_closure.specs.Witness.{ReachedBy, IsWitness, Owns, Shows}

reached_eff : {U : Registry} {owned : Caps} (owner : Owner) (c : Cap) → Owns owned owner → ReachedBy U owner c → InEffect U owned c
reached_eff (Group group) c there h = (Use group, inl there, from_chain c h)
reached_eff Everybody c there h = eff_more (λ op u. u) (λ x never. absurd never) c h

pub shown : {U : Registry} {owned : Caps} (w : Witness) (c : Cap) → IsWitness U w → Shows w owned c → InEffect U owned c
shown w c is shows = reached_eff w.owner c shows.owns (is.reached c shows.among)

reached_more : {U V : Registry} → Within U V → (owner : Owner) → Within (ReachedBy U owner) (ReachedBy V owner)
reached_more more (Group group) c h = reach_more more (λ x e. e) c h
reached_more more Everybody c h = eff_more more (λ x never. never) c h

pub witness_more : {U V : Registry} (w : Witness) → Within U V → IsWitness U w → IsWitness V w
witness_more w more is = record { reached = λ c h. reached_more more w.owner c (is.reached c h) }
