-- What keeps a bench orderly: a process that is put in the place of another, one that is born or
-- gone, and the end of an operation.
use Rattle.std.proofs.Common.{◌≡◌, ◌<◌, ◌+◌, ◌%◌, ◌∙◌, ◌⊎◌, inl, inr, refl, sym, ap, subst}
use Rattle.std.proofs.Common.{List, ℕ, Option, Some, None, arith}
use native.Mathlib.Nat.{add-mod_right}
use Rattle.std.specs.FinMap as map
use Rattle.fl_labels.specs.Pid.{pid_cmp}
use Rattle.fl_labels.specs.PidOrder.{pid_total, pid_exact}
use Rattle.fl_labels.specs.declared.cap.Cap.{Cap}
use Rattle.fl_labels.specs.declared.pid.Pid.{Pid}
use Rattle.fl_bench.specs.Bench.{BenchState, IsNext, new_bench, has_at, gone, born}
use Rattle.fl_bench.specs.Gifts.{settled, receives, settles}
use Rattle.fl_bench.specs.Orderly.{IsOwn, IsGiven, IsOrderly}
use Rattle.fl_bench.specs.declared.process.Process.{Process}
use Rattle.fl_bench.specs.laws.Puts.{get_put, left_there, none_some}

pub opened_orderly : (node boot index stride : ℕ) → 0 < index → 0 < stride
    → IsOrderly (new_bench node boot index stride)
opened_orderly node boot index stride begun forward =
    record {
      begun = begun;
      forward = forward;
      each = λ pid p e. absurd
          (none_some (map.get-empty pid_cmp pid) e);
    }

-- the next pid is one that the bench gives
pub next_own : {b : BenchState} {pid : Pid} → IsNext b pid → IsOwn b pid
next_own {b} next =
    record {
      node_is = next.node;
      boot_is = next.boot;
      residue_is = ap (λ n. n % b.stride)
          next.serial;
    }

-- what holds of the keys of a table, and of the one where something is put
put_each : {P : Pid → Type 0} (m : map.FinMap pid_cmp Process) (pid : Pid) (new : Process) → P pid
    → ((k : Pid) (x : Process) → map.get m k ≡ Some x → P k)
    → (k : Pid) (x : Process) → map.get (map.insert m pid new) k ≡ Some x → P k
put_each {P} m pid new here each k x e = by_place (get_put pid_total pid_exact m pid new k)
  where
    by_place : ((k ≡ pid) × (map.get (map.insert m pid new) k ≡ Some new))
        ⊎ (map.get (map.insert m pid new) k ≡ map.get m k) → P k
    by_place (inl s) = subst P (sym s.0) here
    by_place (inr s) = each k x (sym s ∙ e)

module _ {b : BenchState} (h : IsOrderly b) where
  -- whoever is there was given by the bench
  pub with_processes : (m : map.FinMap pid_cmp Process)
      → ((k : Pid) (x : Process) → map.get m k ≡ Some x → IsGiven b k) → IsOrderly
      (record b { processes = m })
  with_processes m each =
      record { begun = h.begun; forward = h.forward; each = λ k x e. moved k (each k x e) }
    where
      moved : (k : Pid) → IsGiven b k → IsGiven (record b { processes = m }) k
      moved k g = record {
        own =
            record {
              node_is = g.own.node_is;
              boot_is = g.own.boot_is;
              residue_is = g.own.residue_is;
            };
        below = g.below;
      }

  pub put_orderly : (pid : Pid) (old new : Process) → map.get b.processes pid ≡ Some old
      → IsOrderly (has_at b pid new)
  put_orderly pid old new e =
      with_processes (map.insert b.processes pid new)
      (put_each b.processes pid new (h.each pid old e) h.each)

  pub gone_orderly : (pid : Pid) → IsOrderly (gone b pid)
  gone_orderly pid = with_processes (map.remove b.processes pid)
      (λ k x e. h.each k x (left_there pid_total pid_exact b.processes pid k x e))

  -- the next serial moves by a stride
  pub born_orderly : (pid : Pid) (child : Process) → IsNext b pid → IsOrderly (born b pid child)
  born_orderly pid child next = record {
    begun = omega (arith, h.begun);
    forward = h.forward;
    each = put_each {P = IsGiven (born b pid child)} b.processes pid child
        (given pid (next_own next) (omega (arith, next.serial, h.forward)))
        (λ k x e. let g = h.each k x e in given k g.own (omega (arith, g.below)));
  }
    where
      given : (k : Pid) → IsOwn b k → k.serial < b.next + b.stride → IsGiven (born b pid child) k
      given k own below = record {
        own = record {
          node_is = own.node_is;
          boot_is = own.boot_is;
          residue_is = own.residue_is ∙ sym (add-mod_right b.next b.stride);
        };
        below = below;
      }

  -- a finish and a cancel
  pub settles_orderly : (pid : Pid) (caps : List Cap) → IsOrderly (settles b pid caps)
  settles_orderly pid caps = by_found (map.get b.processes pid) refl
    where
      by_found : (o : Option Process) → map.get b.processes pid ≡ o
          → IsOrderly (record b { processes = receives b.processes pid caps o })
      by_found None e = h
      by_found (Some p) e = put_orderly pid p (record p { owned = settled p.owned caps }) e
