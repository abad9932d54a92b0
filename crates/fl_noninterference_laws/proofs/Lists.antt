-- Lists of benches that are alike, one by one.
use Rattle.std.proofs.Common.{◌≡◌, inl, refl, sym, ap, subst, ℕ, zero, suc, List, [], ◌∷◌, length}
use Rattle.std.proofs.Common.{Some}
use Rattle.fl_labels.specs.declared.name.Name.{Name}
use Rattle.fl_labels.specs.declared.pid.Pid.{Pid}
use Rattle.fl_bench.specs.Bench.{BenchState}
use Rattle.fl_bench.specs.laws.Puts.{none_some, same_found}
use Rattle.fl_system.specs.Numbered.{item_at, change_item, with_item}
use Rattle.fl_system.specs.Processes.{process_at}
use Rattle.fl_noninterference_laws.specs.Alike.{AlikeAt, AreAlikeBenches}
use Rattle.fl_noninterference_laws.specs.AlikeNodes.{AreAlikeLists}
use Rattle.fl_noninterference_laws.proofs.Standing.{same_bench, turned_bench, joined_bench}

module _ (tag : Name) where
  pub same_list : (bs : List BenchState) → AreAlikeLists tag bs bs
  same_list [] = tt
  same_list (b ∷ bs) = (same_bench tag b, same_list bs)

  pub turned_list : (bs cs : List BenchState) → AreAlikeLists tag bs cs → AreAlikeLists tag cs bs
  turned_list [] [] h = tt
  turned_list (b ∷ bs) (c ∷ cs) h = (turned_bench tag h.0, turned_list bs cs h.1)
  turned_list [] (c ∷ cs) h = absurd h
  turned_list (b ∷ bs) [] h = absurd h

  pub joined_list : (bs cs ds : List BenchState) → AreAlikeLists tag bs cs
      → AreAlikeLists tag cs ds → AreAlikeLists tag bs ds
  joined_list [] [] [] h k = tt
  joined_list [] [] (d ∷ ds) h k = absurd k
  joined_list [] (c ∷ cs) ds h k = absurd h
  joined_list (b ∷ bs) [] ds h k = absurd h
  joined_list (b ∷ bs) (c ∷ cs) [] h k = absurd k
  joined_list (b ∷ bs) (c ∷ cs) (d ∷ ds) h k =
      (joined_bench tag h.0 k.0, joined_list bs cs ds h.1 k.1)

  pub length_alike : (bs cs : List BenchState) → AreAlikeLists tag bs cs → length bs ≡ length cs
  length_alike [] [] h = refl
  length_alike (b ∷ bs) (c ∷ cs) h = ap suc (length_alike bs cs h.1)
  length_alike [] (c ∷ cs) h = absurd h
  length_alike (b ∷ bs) [] h = absurd h

  -- the bench of this number of the other list
  pub record IsAlikeAt (b : BenchState) (cs : List BenchState) (k : ℕ) : Type 0 where
    pub bench : BenchState
    pub there : item_at cs k ≡ Some bench
    pub alike : AreAlikeBenches tag b bench

  pub bench_at : (bs cs : List BenchState) (k : ℕ) (b : BenchState) → AreAlikeLists tag bs cs
      → item_at bs k ≡ Some b → IsAlikeAt b cs k
  bench_at [] cs k b h e = absurd (none_some refl e)
  bench_at (x ∷ bs) [] k b h e = absurd h
  bench_at (x ∷ bs) (y ∷ cs) zero b h e = absurd (none_some refl e)
  bench_at (x ∷ bs) (y ∷ cs) (suc zero) b h e = record {
    bench = y;
    there = refl;
    alike = subst (λ z. AreAlikeBenches tag z y) (same_found refl e) h.0;
  }
  bench_at (x ∷ bs) (y ∷ cs) (suc (suc k)) b h e =
      let it = bench_at bs cs (suc k) b h.1 e in
      record { bench = it.bench; there = it.there; alike = it.alike }

  -- where the same is done to one of each
  pub changed_alike : (f g : BenchState → BenchState)
      → ((b c : BenchState) → AreAlikeBenches tag b c → AreAlikeBenches tag (f b) (g c))
      → (bs cs : List BenchState) (k : ℕ) → AreAlikeLists tag bs cs
      → AreAlikeLists tag (change_item f bs k) (change_item g cs k)
  changed_alike f g each [] [] k h = tt
  changed_alike f g each [] (c ∷ cs) k h = absurd h
  changed_alike f g each (b ∷ bs) [] k h = absurd h
  changed_alike f g each (b ∷ bs) (c ∷ cs) zero h = h
  changed_alike f g each (b ∷ bs) (c ∷ cs) (suc zero) h = (each b c h.0, h.1)
  changed_alike f g each (b ∷ bs) (c ∷ cs) (suc (suc k)) h =
      (h.0, changed_alike f g each bs cs (suc k) h.1)

  pub put_alike : (x y : BenchState) → AreAlikeBenches tag x y → (bs cs : List BenchState) (k : ℕ)
      → AreAlikeLists tag bs cs → AreAlikeLists tag (with_item bs k x) (with_item cs k y)
  put_alike x y alike = changed_alike (λ _. x) (λ _. y) (λ b c h. alike)

  -- where one of them changes to one that is alike
  pub put_hidden : (bs : List BenchState) (k : ℕ) (b x : BenchState) → item_at bs k ≡ Some b
      → AreAlikeBenches tag b x → AreAlikeLists tag bs (with_item bs k x)
  put_hidden [] k b x e alike = tt
  put_hidden (y ∷ bs) zero b x e alike = same_list (y ∷ bs)
  put_hidden (y ∷ bs) (suc zero) b x e alike =
      (subst (λ z. AreAlikeBenches tag z x) (sym (same_found refl e)) alike, same_list bs)
  put_hidden (y ∷ bs) (suc (suc k)) b x e alike =
      (same_bench tag y, put_hidden bs (suc k) b x e alike)

  -- who stands at benches that are alike
  pub stands_alike : (bs cs : List BenchState) (k : ℕ) (pid : Pid) → AreAlikeLists tag bs cs
      → AlikeAt tag (process_at (item_at bs k) pid) (process_at (item_at cs k) pid)
  stands_alike [] [] k pid h = inl refl
  stands_alike [] (c ∷ cs) k pid h = absurd h
  stands_alike (b ∷ bs) [] k pid h = absurd h
  stands_alike (b ∷ bs) (c ∷ cs) zero pid h = inl refl
  stands_alike (b ∷ bs) (c ∷ cs) (suc zero) pid h = h.0.each pid
  stands_alike (b ∷ bs) (c ∷ cs) (suc (suc k)) pid h = stands_alike bs cs (suc k) pid h.1
