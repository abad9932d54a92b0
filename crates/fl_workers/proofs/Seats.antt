-- How the seats of a crew are filled.
use Rattle.std.proofs.Common.{◌≡◌, ◌∙◌, ◌⊎◌, inl, inr, ℕ, suc, ◌<◌, ◌≤◌, ◌+◌, false, List, [], ◌∷◌, ◌++◌, All, None, map, length, get_or, sym, ap, subst, arith}
use Rattle.std.proofs.lemmas.Bool.{cases_lt}
use Rattle.std.proofs.lemmas.List.{get_or_push, get_or_append_left, map-append}
use Rattle.std.proofs.lemmas.List.Elements.{All-push}
use Rattle.logbook.specs.Pages.{Book}
use Rattle.fl_bench.specs.Bench.{BenchState, new_bench}
use Rattle.fl_node.specs.Over.{NodeOver}
use Rattle.fl_registrar.specs.Over.{RegistrarOver}
use Rattle.fl_replica.specs.Boards.{Pressed}
use Rattle.fl_settling.specs.Numbers.{AreNumbered}
use Rattle.fl_system.specs.Numbered.{items_to}
use Rattle.fl_worker.specs.declared.worker.Worker.{Worker}
use Rattle.fl_workers.specs.Seated.{seated_of}
use Rattle.fl_workers.specs.Seats.{IsAtBoard, IsManned, bench_of_worker, manned_of}

module _ (ws ws' : List Worker) (w : Worker) (n : ℕ) (pushed : ws' ≡ ws ++ w ∷ [])
    (count : length ws ≡ n) where
  pub numbered_more : AreNumbered ws → w.number ≡ n + 1 → length ws' ≡ n + 1 → AreNumbered ws'
  numbered_more numbered named len k d below =
      subst (λ (l : List Worker). (get_or l k d).number ≡ k + 1) (sym pushed) (by (cases_lt k n))
    where
      by : (k < n) ⊎ (n ≤ k) → (get_or (ws ++ w ∷ []) k d).number ≡ k + 1
      by (inl less) =
          let within : k < length ws = omega (arith, count, less) in
          ap (λ (v : Worker). v.number) (get_or_append_left ws (w ∷ []) d k within)
          ∙ numbered k d within
      by (inr more) =
          let last : length ws ≡ k = omega (arith, count, more, below, len) in
          let named_so : w.number ≡ k + 1 = omega (arith, named, last, count) in
          ap (λ (v : Worker). v.number) (get_or_push ws w d k last) ∙ named_so

  pub benches_more : (item : ℕ → BenchState) → map bench_of_worker ws ≡ items_to n item
      → w.bench ≡ item (n + 1) → map bench_of_worker ws' ≡ items_to (n + 1) item
  benches_more item benches bench =
      let one : suc n ≡ n + 1 = omega arith in
      let here : w.bench ≡ item (suc n) = bench ∙ ap item (sym one) in
      let pushed_on : map bench_of_worker (ws ++ w ∷ []) ≡ items_to (suc n) item =
      map-append bench_of_worker ws (w ∷ []) ∙ (λ i. benches i ++ here i ∷ []) in
      ap (map bench_of_worker) pushed ∙ (pushed_on ∙ ap (λ (k : ℕ). items_to k item) one)

  pub boards_more : (board : Book) → All (IsAtBoard board) ws → w.desk.board ≡ board
      → All (IsAtBoard board) ws'
  boards_more board all is =
      subst (All (IsAtBoard board)) (sym pushed) (All-push (IsAtBoard board) ws w all is)

-- before the first batch
pub seated_is : {K : Type 0} (node : NodeOver K) (size number boot : ℕ) (ws : List Worker)
    (r : RegistrarOver K) (press : Pressed)
    → r ≡ record {
      node = node;
      press = press;
      due = None;
      orders = [];
      deeds = [];
      rows = 0;
      failed = None;
      stopped = false;
    } → press.list ≡ node.node.published → length ws ≡ size → number ≡ node.node.number
    → boot ≡ node.node.boot
    → map bench_of_worker ws ≡ items_to size (λ index. new_bench number boot index size)
    → manned_of ws r 0 false ≡ seated_of node size
seated_is {K} node size number boot ws r press is list count numbered booted benches =
    let lists : r.press.list ≡ node.node.published =
    ap (λ (x : RegistrarOver K). x.press.list) is ∙ list in
    let all : map bench_of_worker ws
    ≡ items_to size (λ index. new_bench node.node.number node.node.boot index size) =
    benches
    ∙ (λ i. items_to size (λ index. new_bench (numbered i) (booted i) index size)) in
    λ i. record {
      node = (is i).node;
      list = lists i;
      due = (is i).due;
      benches = all i;
      procs = 0;
      size = count i;
      failed = (is i).failed;
      stopped = false;
    }

pub seats_are : {K : Type 0} (node : NodeOver K) (size lines : ℕ) (ws : List Worker)
    (r : RegistrarOver K) (press : Pressed)
    → r ≡ record {
      node = node;
      press = press;
      due = None;
      orders = [];
      deeds = [];
      rows = 0;
      failed = None;
      stopped = false;
    } → 1 ≤ size → size ≤ 16 → lines ≡ size → length ws ≡ size → AreNumbered ws
    → All (IsAtBoard press.board) ws → IsManned ws r lines 0 false
seats_are {K} node size lines ws r press is some few all count numbered boards = record {
  some = omega (arith, count, some);
  few = omega (arith, count, few);
  seated = λ runs. record {
    lines_are = all ∙ sym count;
    numbered = numbered;
    boards =
        subst (λ (b : Book). All (IsAtBoard b) ws)
        (sym (ap (λ (x : RegistrarOver K). x.press.board) is)) boards;
    next = omega (arith, count, some);
    runs = ap (λ (x : RegistrarOver K). x.stopped) is;
  };
}
