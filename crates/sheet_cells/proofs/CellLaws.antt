-- Laws of the cells of a members' sheet: each kind, and what the checks of a cell say.
use Prim.Native.Nat.{ℕ, ◌+◌}
use mathlib.Core.Path.{◌≡◌, refl, sym, ap, subst, ◌∙◌}
use mathlib.Core.Bool.{Bool, true, false, not, cond, ◌&&◌}
use mathlib.Core.List.{List}
use native.Mathlib.Omega.{arith}
use borrow.Author.Tests.{ne_eqb, not-false}
use lib.Dec.{eqb}
use lib.ListN.{get_or}
use lib.Ieee.{Float}
use Rattle.refusals.specs.declared.Refusal.{Refusal}
use Rattle.refusals.specs.declared.Refusal.TheVariants.{BadDouble}
use Rattle.refusals.specs.Promises.{Before, Stopped}
use Rattle.refusals.proofs.InsideLaws.{both}
use Rattle.refusals.proofs.CheckLaws.{◌&◌}
use Rattle.little_endian.specs.Bytes.{number_at}
use Rattle.doubles.specs.Doubles.{double_at, unused_at, counts}
use Rattle.doubles.proofs.Exact.{no_true}
use Rattle.sheet_cells.specs.declared.Cell.TheVariants.{Gap, Figure, Revision}
use Rattle.sheet_cells.specs.declared.Cell.{Cell}
use Rattle.sheet_cells.specs.declared.Imported.{Imported}
use Rattle.std.specs.Prelude.{Option, Some, None, Result, Ok, Err}
use Rattle.sheet_cells.specs.Cells.{with_month, imported_at, kind_at, first_at, second_at, cell_at, newest}
use Rattle.sheet_cells.specs.CellChecks.{is_malformed, is_gap, all_count, checks_of, cell_checks}
use Rattle.sheet_cells.specs.Promises.{OfMonth, acceptance, Says}

fine_refused : {q : Refusal} → ◌≡◌ {A = Result Unit Refusal} (Ok tt) (Err q) → ⊥
fine_refused e = let z : ◌≡◌ {A = ℕ} 0 1 = cc in omega arith

same_refusal : {p q : Refusal} → ◌≡◌ {A = Result Unit Refusal} (Err p) (Err q) → p ≡ q
same_refusal e = cc

-- ---- a cell by its kind
pub kind_byte : (sheet : List ℕ) (t : ℕ) → kind_at sheet t ≡ get_or sheet (3 + t) 0
unfolding kind_at number_at
kind_byte sheet t = omega arith

module _ (sheet : List ℕ) (t : ℕ) where
  pub cell-revision : kind_at sheet t ≡ 2 → cell_at sheet t ≡ Some (Revision (imported_at sheet t (first_at sheet t)) (imported_at sheet t (second_at sheet t)))
  unfolding cell_at
  cell-revision k = rw k

  pub cell-figure : kind_at sheet t ≡ 1 → unused_at sheet (second_at sheet t) ≡ true → cell_at sheet t ≡ Some (Figure (imported_at sheet t (first_at sheet t)))
  unfolding cell_at
  cell-figure k u = rw (k, u)

  pub cell-gap : kind_at sheet t ≡ 0 → unused_at sheet (first_at sheet t) ≡ true → unused_at sheet (second_at sheet t) ≡ true → cell_at sheet t ≡ Some Gap
  unfolding cell_at
  cell-gap k u v = rw (k, u, v)

  -- the three ways to be malformed, whatever else the cell holds
  pub first_used : kind_at sheet t ≡ 0 → unused_at sheet (first_at sheet t) ≡ false → cell_at sheet t ≡ None
  unfolding cell_at
  first_used k u = rw (k, u)

  pub second_used : (kind_at sheet t ≡ 2 → ⊥) → unused_at sheet (second_at sheet t) ≡ false → cell_at sheet t ≡ None
  unfolding cell_at
  second_used k u = rw (u, ne_eqb (kind_at sheet t) 2 k) (by (unused_at sheet (first_at sheet t)) (eqb (kind_at sheet t) 0) (eqb (kind_at sheet t) 1))
    where
      by : (f a b : Bool) → cond a (cond (f && false) (Some Gap) None) (cond b None None) ≡ None
      by true true b = refl
      by false true b = refl
      by f false true = refl
      by f false false = refl

  pub kind-unknown : (kind_at sheet t ≡ 0 → ⊥) → (kind_at sheet t ≡ 1 → ⊥) → (kind_at sheet t ≡ 2 → ⊥) → cell_at sheet t ≡ None
  unfolding cell_at
  kind-unknown a b c = rw (ne_eqb (kind_at sheet t) 0 a, ne_eqb (kind_at sheet t) 1 b, ne_eqb (kind_at sheet t) 2 c)

-- each double of a cell that is read is with its month
pub cell-month : (sheet : List ℕ) (t : ℕ) → OfMonth t (cell_at sheet t)
unfolding cell_at imported_at
cell-month sheet t =
    by (eqb (kind_at sheet t) 0) (eqb (kind_at sheet t) 1) (eqb (kind_at sheet t) 2)
    (unused_at sheet (first_at sheet t) && unused_at sheet (second_at sheet t)) (unused_at sheet (second_at sheet t))
    (double_at sheet (first_at sheet t)) (double_at sheet (second_at sheet t))
  where
    by : (gap figure revision both second : Bool) (x y : Float)
        → OfMonth t (cond gap (cond both (Some Gap) None) (cond figure (cond second (Some (Figure (with_month t x))) None)
        (cond revision (Some (Revision (with_month t x) (with_month t y))) None)))
    by true f r true s x y = tt
    by true f r false s x y = tt
    by false true r b true x y = refl
    by false true r b false x y = tt
    by false false true b s x y = (refl, refl)
    by false false false b s x y = tt

-- ---- what the checks of a cell say
pub accepted : (d : Imported) → counts d.double ≡ true → acceptance d ≡ Ok tt
unfolding acceptance
accepted d h = rw h

-- where its double does not count, a double of month t is refused with that place
refused-at : {t : ℕ} (d : Imported) → d.month ≡ t → counts d.double ≡ false → acceptance d ≡ Err (BadDouble t)
unfolding acceptance
refused-at d m h = rw (h, m)

-- row 14 applies to a figure or a revision
double-bad : (c : Option Cell) (t : ℕ) → is_malformed c ≡ false → is_gap c ≡ false → all_count c ≡ false → Stopped (BadDouble t) (checks_of c t)
double-bad c t b g d = record { at = 2; before = (b, (g, tt)); here = rw d }

module _ {t : ℕ} where
  says-figure : (d : Imported) → d.month ≡ t → Says (checks_of (Some (Figure d)) t) (acceptance d)
  says-figure d m = by (counts d.double) refl
    where
      by : (b : Bool) → counts d.double ≡ b → Says (checks_of (Some (Figure d)) t) (acceptance d)
      by true e = rw (accepted d e) (refl & refl & ap not e & tt)
      by false e = rw (refused-at d m e) (double-bad (Some (Figure d)) t refl refl e)

  -- of a revision the old figure is looked at, and the new one where that counts
  says-old : (old new : Imported) → old.month ≡ t → {q : Refusal} → Err q ≡ acceptance old → Stopped q (checks_of (Some (Revision old new)) t)
  says-old old new m {q} h = by (counts old.double) refl
    where
      by : (b : Bool) → counts old.double ≡ b → Stopped q (checks_of (Some (Revision old new)) t)
      by true e = absurd (fine_refused (sym (h ∙ accepted old e)))
      by false e = rw (same_refusal (h ∙ refused-at old m e)) (double-bad (Some (Revision old new)) t refl refl (rw e))

  says-new : (old new : Imported) → old.month ≡ t → new.month ≡ t → Ok tt ≡ acceptance old
      → Says (checks_of (Some (Revision old new)) t) (acceptance new)
  says-new old new m k h = by (counts old.double) (counts new.double) refl refl
    where
      by : (b d : Bool) → counts old.double ≡ b → counts new.double ≡ d → Says (checks_of (Some (Revision old new)) t) (acceptance new)
      by false d e g = absurd (fine_refused (h ∙ refused-at old m e))
      by true true e g = rw (accepted new g) (refl & refl & rw (e, g) refl & tt)
      by true false e g = rw (refused-at new k g) (double-bad (Some (Revision old new)) t refl refl (rw (e, g)))

-- the same of the cell that is read: each double of it is with its month
module _ (sheet : List ℕ) (t : ℕ) where
  month : {c : Option Cell} → c ≡ cell_at sheet t → OfMonth t c
  month e = subst (OfMonth t) (sym e) (cell-month sheet t)

  pub figure_says : {d : Imported} {r : Result Unit Refusal} → Some (Figure d) ≡ cell_at sheet t → r ≡ acceptance d → Says (cell_checks sheet t) r
  figure_says {d} e f = rw (← e, f) (says-figure d (month e))

  pub old_says : {old new : Imported} {q : Refusal} → Some (Revision old new) ≡ cell_at sheet t → Err q ≡ acceptance old → Stopped q (cell_checks sheet t)
  old_says {old} {new} e h = rw (← e) (says-old old new (month e).0 h)

  pub new_says : {old new : Imported} {r : Result Unit Refusal} → Some (Revision old new) ≡ cell_at sheet t → Ok tt ≡ acceptance old → r ≡ acceptance new → Says (cell_checks sheet t) r
  new_says {old} {new} e h f = let m = month e in rw (← e, f) (says-new old new m.0 m.1 h)

-- ---- a cell to which no check applies
-- it is a figure or a revision, and its doubles count
abbrev pub Takes : Option Cell → Type 0
Takes None = ⊥
Takes (Some Gap) = ⊥
Takes (Some (Figure figure)) = counts figure.double ≡ true
Takes (Some (Revision old new)) = (counts old.double ≡ true) × (counts new.double ≡ true)

takes : (c : Option Cell) → is_malformed c ≡ false → is_gap c ≡ false → not (all_count c) ≡ false → Takes c
takes None b g d = no_true (sym b)
takes (Some Gap) b g d = no_true (sym g)
takes (Some (Figure figure)) b g d = not-false (counts figure.double) d
takes (Some (Revision old new)) b g d = both (counts old.double) (counts new.double) (not-false (counts old.double && counts new.double) d)

pub taken : (sheet : List ℕ) (t : ℕ) → Before 3 (cell_checks sheet t) → Takes (cell_at sheet t)
taken sheet t h = takes (cell_at sheet t) h.0 h.1.0 h.1.1.0

pub newest-counts : (c : Option Cell) → Takes c → counts (newest c) ≡ true
newest-counts None h = absurd h
newest-counts (Some Gap) h = absurd h
newest-counts (Some (Figure figure)) h = h
newest-counts (Some (Revision old new)) h = h.1

-- and back
passes : (c : Option Cell) → Takes c → (is_malformed c ≡ false) × (is_gap c ≡ false) × (not (all_count c) ≡ false)
passes None h = absurd h
passes (Some Gap) h = absurd h
passes (Some (Figure figure)) h = (refl, refl, ap not h)
passes (Some (Revision old new)) h = (refl, refl, rw (h.0, h.1))

pub cell_passed : (sheet : List ℕ) (t : ℕ) → Takes (cell_at sheet t) → Before 3 (cell_checks sheet t)
cell_passed sheet t h = let p = passes (cell_at sheet t) h in p.0 & p.1 & p.2 & tt
