-- Laws of the checks of cells that follow one another.
use Prim.Native.Nat.{ℕ, zero, suc, ◌+◌, ◌<◌}
use mathlib.Core.Path.{◌≡◌, subst}
use mathlib.Core.List.{List}
use native.Mathlib.Omega.{arith}
use lib.ListN.{length}
use Rattle.refusals.specs.declared.Refusal.{Refusal}
use Rattle.refusals.specs.Promises.{Before, Stopped}
use Rattle.refusals.proofs.CheckLaws.{◌&◌, stopped-after, stopped_more}
use Rattle.sheet_cells.specs.CellChecks.{cell_checks}
use Rattle.members_sheet.specs.ReadSheet.{cells_from}
use Rattle.members_sheet.specs.AllAccepted.{AllAccepted}

-- the first bad cell is behind i cells to which no check applies, or there is none
module _ (sheet : List ℕ) where
  pub stopped_cell : {q : Refusal} (i t k : ℕ) → i < k → ((j : ℕ) → j < i → Before 3 (cell_checks sheet (t + j))) → Stopped q (cell_checks sheet (t + i))
      → Stopped q (cells_from sheet t k)
  unfolding cells_from
  stopped_cell i t zero l h s = absurd (omega arith)
  stopped_cell {q} zero t (suc k) l h s =
      let e : t + 0 ≡ t = omega arith in
      stopped_more (cells_from sheet (suc t) k) (subst (λ (m : ℕ). Stopped q (cell_checks sheet m)) e s)
  stopped_cell {q} (suc i) t (suc k) l h s =
      let e : t + 0 ≡ t = omega arith in
      let n : t + suc i ≡ suc t + i = omega arith in
      let p = subst (λ (m : ℕ). Before 3 (cell_checks sheet m)) e (h 0 (omega arith)) in
      stopped-after p.0 (stopped-after p.1.0 (stopped-after p.1.1.0
      (stopped_cell i (suc t) k (omega arith) (later h) (subst (λ (m : ℕ). Stopped q (cell_checks sheet m)) n s))))
    where
      later : ((j : ℕ) → j < suc i → Before 3 (cell_checks sheet (t + j))) → (j : ℕ) → j < i → Before 3 (cell_checks sheet (suc t + j))
      later h j m = let r : t + suc j ≡ suc t + j = omega arith in subst (λ (m : ℕ). Before 3 (cell_checks sheet m)) r (h (suc j) (omega arith))

  pub cells-passed : (t k : ℕ) → ((j : ℕ) → j < k → Before 3 (cell_checks sheet (t + j))) → Before (length (cells_from sheet t k)) (cells_from sheet t k)
  unfolding cells_from
  cells-passed t zero h = tt
  cells-passed t (suc k) h =
      let e : t + 0 ≡ t = omega arith in
      let p = subst (λ (m : ℕ). Before 3 (cell_checks sheet m)) e (h 0 (omega arith)) in
      p.0 & p.1.0 & p.1.1.0 & cells-passed (suc t) k (λ j m. let r : t + suc j ≡ suc t + j = omega arith in subst (λ (m : ℕ). Before 3 (cell_checks sheet m)) r (h (suc j) (omega arith)))

  pub each_passed : (t k : ℕ) → Before (length (cells_from sheet t k)) (cells_from sheet t k) → (j : ℕ) → j < k → Before 3 (cell_checks sheet (t + j))
  unfolding cells_from
  each_passed t zero h j l = absurd (omega arith)
  each_passed t (suc k) h zero l = let e : t ≡ t + 0 = omega arith in subst (λ (m : ℕ). Before 3 (cell_checks sheet m)) e (h.0 & h.1.0 & h.1.1.0 & tt)
  each_passed t (suc k) h (suc j) l =
      let r : suc t + j ≡ t + suc j = omega arith in
      subst (λ (m : ℕ). Before 3 (cell_checks sheet m)) r (each_passed (suc t) k h.1.1.1 j (omega arith))

-- from the first cell on
pub stopped_here : {q : Refusal} {sheet : List ℕ} {n t : ℕ} → AllAccepted sheet t → t < n → Stopped q (cell_checks sheet t) → Stopped q (cells_from sheet 0 n)
stopped_here {q} {sheet} {n} {t} a l s =
    let e : t ≡ 0 + t = omega arith in
    stopped_cell sheet t 0 n l (λ j h. let m : j ≡ 0 + j = omega arith in subst (λ (k : ℕ). Before 3 (cell_checks sheet k)) m (a.each j h))
    (subst (λ (k : ℕ). Stopped q (cell_checks sheet k)) e s)

pub all_passed : {sheet : List ℕ} {n : ℕ} → AllAccepted sheet n → Before (length (cells_from sheet 0 n)) (cells_from sheet 0 n)
all_passed {sheet} {n} a = cells-passed sheet 0 n (λ j h. let m : j ≡ 0 + j = omega arith in subst (λ (k : ℕ). Before 3 (cell_checks sheet k)) m (a.each j h))

-- and back, where the answer is a success
pub all_taken : {sheet : List ℕ} {n : ℕ} → Before (length (cells_from sheet 0 n)) (cells_from sheet 0 n) → AllAccepted sheet n
all_taken {sheet} {n} b = record { each = λ t h. let m : 0 + t ≡ t = omega arith in subst (λ (k : ℕ). Before 3 (cell_checks sheet k)) m (each_passed sheet 0 n b t h) }
