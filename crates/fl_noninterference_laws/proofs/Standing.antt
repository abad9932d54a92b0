-- What is alike at two tables of processes, and at two benches, when one of them changes, or both.
use Rattle.std.proofs.Common.{◌≡◌, ◌∙◌, inl, inr, refl, sym, subst, Bool, true, false, cond}
use Rattle.std.proofs.Common.{Option, Some, None, ◌+◌}
use Rattle.std.specs.FinMap as map
use Rattle.std.specs.Cmp.{Equal-is}
use Rattle.std.specs.Ordering.{eq_by_cmp}
use Rattle.fl_labels.specs.Pid.{pid_cmp}
use Rattle.fl_labels.specs.PidOrder.{pid_total, pid_exact}
use Rattle.fl_labels.specs.SetBy.{In}
use Rattle.fl_labels.specs.declared.name.Name.{Name}
use Rattle.fl_labels.specs.declared.pid.Pid.{Pid}
use Rattle.fl_bench.specs.Bench.{BenchState, IsNext, has_at, gone, born}
use Rattle.fl_bench.specs.declared.process.Process.{Process}
use Rattle.fl_noninterference_laws.specs.Alike.{AlikeAt, AreAlikeBenches}
use Rattle.fl_noninterference_laws.specs.Tainted.{IsVeiled}

-- the processes of a bench
abbrev pub Table : Type 0
Table = map.FinMap pid_cmp Process

module _ (tag : Name) where
  -- ---- alike in one place

  pub turned : {o other : Option Process} → AlikeAt tag o other → AlikeAt tag other o
  turned (inl e) = inl (sym e)
  turned (inr v) = inr (v.1, v.0)

  pub veiled_too : {o other : Option Process} → AlikeAt tag o other → IsVeiled tag o
      → IsVeiled tag other
  veiled_too (inl e) v = subst (IsVeiled tag) e v
  veiled_too (inr both) v = both.1

  pub joined : {o mid other : Option Process} → AlikeAt tag o mid → AlikeAt tag mid other
      → AlikeAt tag o other
  joined (inl e) (inl f) = inl (e ∙ f)
  joined (inl e) (inr v) = inr (subst (IsVeiled tag) (sym e) v.0, v.1)
  joined (inr v) (inl f) = inr (v.0, subst (IsVeiled tag) f v.1)
  joined (inr v) (inr w) = inr (v.0, w.1)

  -- who does not have the tag stands at both
  pub stands_too : {o other : Option Process} → AlikeAt tag o other → ¬ IsVeiled tag o → o ≡ other
  stands_too (inl e) shown = e
  stands_too (inr v) shown = absurd (shown v.0)

  -- ---- alike in each place

  abbrev pub AlikeTables : Table → Table → Type 0
  AlikeTables m n = (pid : Pid) → AlikeAt tag (map.get m pid) (map.get n pid)

  chosen : (b : Bool) (o other was had : Option Process) → (b ≡ true → AlikeAt tag o other)
      → (b ≡ false → AlikeAt tag was had) → AlikeAt tag (cond b o was) (cond b other had)
  chosen true o other was had here there = here refl
  chosen false o other was had here there = there refl

  chosen_first : (b : Bool) (o other was : Option Process) → (b ≡ true → AlikeAt tag o other)
      → (b ≡ false → AlikeAt tag was other) → AlikeAt tag (cond b o was) other
  chosen_first true o other was here there = here refl
  chosen_first false o other was here there = there refl

  module _ (m n : Table) (pid : Pid) (alike : AlikeTables m n) where
    pub put_both : (p q : Process) → AlikeAt tag (Some p) (Some q)
        → AlikeTables (map.insert m pid p) (map.insert n pid q)
    put_both p q at k =
        subst (λ o. AlikeAt tag o (map.get (map.insert n pid q) k))
        (sym (map.get-insert pid_total m pid p k))
        (subst (AlikeAt tag (cond (eq_by_cmp pid_cmp k pid) (Some p) (map.get m k)))
        (sym (map.get-insert pid_total n pid q k))
        (chosen (eq_by_cmp pid_cmp k pid) (Some p) (Some q) (map.get m k) (map.get n k) (λ e. at)
        (λ e. alike k)))

    pub gone_both : AlikeTables (map.remove m pid) (map.remove n pid)
    gone_both k =
        subst (λ o. AlikeAt tag o (map.get (map.remove n pid) k))
        (sym (map.get-remove pid_total m pid k))
        (subst (AlikeAt tag (cond (eq_by_cmp pid_cmp k pid) None (map.get m k)))
        (sym (map.get-remove pid_total n pid k))
        (chosen (eq_by_cmp pid_cmp k pid) None None (map.get m k) (map.get n k) (λ e. inl refl)
        (λ e. alike k)))

    module _ (hidden : IsVeiled tag (map.get m pid)) where
      -- there the other table has nobody but who has the tag
      other_hidden : (k : Pid) → eq_by_cmp pid_cmp k pid ≡ true → IsVeiled tag (map.get n k)
      other_hidden k e =
          subst (λ z. IsVeiled tag (map.get n z))
          (sym (pid_exact k pid ((Equal-is (pid_cmp k pid)).0 e)))
          (veiled_too (alike pid) hidden)

      pub put_first : (p : Process) → In p.labels.secrecy tag
          → AlikeTables (map.insert m pid p) n
      put_first p has k =
          subst (λ o. AlikeAt tag o (map.get n k)) (sym (map.get-insert pid_total m pid p k))
          (chosen_first (eq_by_cmp pid_cmp k pid) (Some p) (map.get n k) (map.get m k)
          (λ e. inr (has, other_hidden k e)) (λ e. alike k))

      pub gone_first : AlikeTables (map.remove m pid) n
      gone_first k =
          subst (λ o. AlikeAt tag o (map.get n k)) (sym (map.get-remove pid_total m pid k))
          (chosen_first (eq_by_cmp pid_cmp k pid) None (map.get n k) (map.get m k)
          (λ e. inr (tt, other_hidden k e)) (λ e. alike k))

  -- ---- benches

  pub same_bench : (b : BenchState) → AreAlikeBenches tag b b
  same_bench b = record {
    node = refl;
    boot = refl;
    next = refl;
    stride = refl;
    each = λ pid. inl refl;
  }

  pub turned_bench : {b c : BenchState} → AreAlikeBenches tag b c → AreAlikeBenches tag c b
  turned_bench a = record {
    node = sym a.node;
    boot = sym a.boot;
    next = sym a.next;
    stride = sym a.stride;
    each = λ pid. turned (a.each pid);
  }

  pub joined_bench : {b c d : BenchState} → AreAlikeBenches tag b c → AreAlikeBenches tag c d
      → AreAlikeBenches tag b d
  joined_bench a e = record {
    node = a.node ∙ e.node;
    boot = a.boot ∙ e.boot;
    next = a.next ∙ e.next;
    stride = a.stride ∙ e.stride;
    each = λ pid. joined (a.each pid) (e.each pid);
  }

  module _ {b c : BenchState} (a : AreAlikeBenches tag b c) where
    -- with other processes
    pub with_tables : (m n : Table) → AlikeTables m n
        → AreAlikeBenches tag (record b { processes = m }) (record c { processes = n })
    with_tables m n alike = record {
      node = a.node;
      boot = a.boot;
      next = a.next;
      stride = a.stride;
      each = alike;
    }

    pub has_both : (pid : Pid) (p q : Process) → AlikeAt tag (Some p) (Some q)
        → AreAlikeBenches tag (has_at b pid p) (has_at c pid q)
    has_both pid p q at = with_tables (map.insert b.processes pid p) (map.insert c.processes pid q)
        (put_both b.processes c.processes pid a.each p q at)

    pub lost_both : (pid : Pid) → AreAlikeBenches tag (gone b pid) (gone c pid)
    lost_both pid = with_tables (map.remove b.processes pid) (map.remove c.processes pid)
        (gone_both b.processes c.processes pid a.each)

    pub born_both : (pid : Pid) (p : Process)
        → AreAlikeBenches tag (born b pid p) (born c pid p)
    born_both pid p = record {
      node = a.node;
      boot = a.boot;
      next = λ i. a.next i + a.stride i;
      stride = a.stride;
      each = put_both b.processes c.processes pid a.each p p (inl refl);
    }

    pub next_too : (pid : Pid) → IsNext b pid → IsNext c pid
    next_too pid next = record {
      node = next.node ∙ a.node;
      boot = next.boot ∙ a.boot;
      serial = next.serial ∙ a.next;
    }

  module _ (b : BenchState) (pid : Pid) (hidden : IsVeiled tag (map.get b.processes pid)) where
    -- where somebody with the tag stands otherwise, or goes, the bench is alike
    pub has_hidden : (p : Process) → In p.labels.secrecy tag
        → AreAlikeBenches tag b (has_at b pid p)
    has_hidden p has = turned_bench (with_tables (same_bench b) (map.insert b.processes pid p)
        b.processes
        (put_first b.processes b.processes pid (λ k. inl refl) hidden p has))

    pub lost_hidden : AreAlikeBenches tag b (gone b pid)
    lost_hidden = turned_bench (with_tables (same_bench b) (map.remove b.processes pid) b.processes
        (gone_first b.processes b.processes pid (λ k. inl refl) hidden))
