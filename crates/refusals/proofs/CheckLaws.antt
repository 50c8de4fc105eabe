-- Laws of checks in their order. A program that has passed i checks keeps `Before i`; where it refuses it shows `Stopped`, and where it accepts,
-- that it is before the end.
use Prim.Native.Nat.{ℕ, zero, suc, ◌≤◌}
use mathlib.Core.Path.{◌≡◌, refl, ap}
use mathlib.Core.Bool.{Bool, true, false, cond, not}
use mathlib.Core.List.{List, [], ◌∷◌, ◌++◌}
use native.Mathlib.Omega.{arith}
use borrow.Author.Tests.{le-ltb}
use lib.ListN.{length, drop}
use Rattle.std.specs.Prelude.{Option, Some, None}
use Rattle.refusals.specs.declared.Refusal.{Refusal}
use Rattle.refusals.specs.Sheet.{row, Answer, success, refusal, refusal_of}
use Rattle.refusals.specs.Checks.{Check, check_row, check_each, first_to_apply}
use Rattle.refusals.specs.Promises.{Before, CheckAt, refusing, Stopped, span_checks, SpanFits}

-- the check at place i does not apply
abbrev pub PassedAt : ℕ → List Check → Type 0
PassedAt i [] = ⊥
PassedAt zero (k ∷ ks) = k.applies ≡ false
PassedAt (suc i) (k ∷ ks) = PassedAt i ks

-- one test after the other
infixr 40 ◌&◌
abbrev pub ◌&◌ : {A B : Type 0} → A → B → A × B
a & b = (a, b)

pub one_more : (ks : List Check) (i : ℕ) → Before i ks → PassedAt i ks → Before (suc i) ks
one_more [] i h t = absurd t
one_more (k ∷ ks) zero h t = (t, tt)
one_more (k ∷ ks) (suc i) h t = (h.0, one_more ks i h.1 t)

-- ---- a check that applies, and one that does not
pub row-applies : (k : ℕ) {b : Bool} → b ≡ true → check_row k b ≡ refusing k 0
row-applies k e = ap (check_row k) e

pub each_applies : (k : ℕ) {t : ℕ} {f : Option ℕ} → f ≡ Some t → check_each k f ≡ refusing k t
each_applies k e = ap (check_each k) e

pub each_passed : (k : ℕ) {f : Option ℕ} → f ≡ None → (check_each k f).applies ≡ false
each_passed k e = ap (λ (f : Option ℕ). (check_each k f).applies) e

pub each_nowhere : (k : ℕ) (f : Option ℕ) → (check_each k f).applies ≡ false → f ≡ None
each_nowhere k (Some t) e = let z : ◌≡◌ {A = ℕ} 0 1 = cc in absurd (omega arith)
each_nowhere k None e = refl

-- ---- the answer
pub no-success : {A : Type 0} {k p : ℕ} {a : A} → ◌≡◌ {A = Answer A} (refusal k p) (success a) → ⊥
no-success e = let z : ◌≡◌ {A = ℕ} 0 1 = cc in omega arith

-- a refusal by a list of checks, with another check before it that does not apply, or with more behind
pub stopped-after : {q : Refusal} {k : Check} {ks : List Check} → k.applies ≡ false → Stopped q ks → Stopped q (k ∷ ks)
stopped-after e s = record { at = suc s.at; before = (e, s.before); here = s.here }

pub before_more : (ks more : List Check) (i : ℕ) → Before i ks → Before i (ks ++ more)
before_more ks more zero h = tt
before_more [] more (suc i) h = absurd h
before_more (k ∷ ks) more (suc i) h = (h.0, before_more ks more i h.1)

check_more : (ks more : List Check) (i : ℕ) (c : Check) → CheckAt i c ks → CheckAt i c (ks ++ more)
check_more [] more i c h = absurd h
check_more (k ∷ ks) more zero c h = h
check_more (k ∷ ks) more (suc i) c h = check_more ks more i c h

pub stopped_more : {q : Refusal} {ks : List Check} (more : List Check) → Stopped q ks → Stopped q (ks ++ more)
stopped_more {q} {ks} more s = record {
  at = s.at;
  before = before_more ks more s.at s.before;
  here = check_more ks more s.at (refusing (row q).number (row q).place) s.here;
}

-- the first of those that do not apply; a refusal behind them
pub before_fewer : (ks : List Check) (i j : ℕ) → i ≤ j → Before j ks → Before i ks
before_fewer ks zero j l h = tt
before_fewer ks (suc i) zero l h = absurd (omega arith)
before_fewer [] (suc i) (suc j) l h = absurd h
before_fewer (k ∷ ks) (suc i) (suc j) l h = (h.0, before_fewer ks i j (omega arith) h.1)

pub stopped_on : {q : Refusal} (ks : List Check) (i : ℕ) → Before i ks → Stopped q (drop i ks) → Stopped q ks
stopped_on ks zero h s = s
stopped_on [] (suc i) h s = absurd h
stopped_on (k ∷ ks) (suc i) h s = stopped-after h.0 (stopped_on ks i h.1 s)

module _ {A : Type 0} where
  pub stop-at : (ks : List Check) (otherwise : Answer A) (i number place : ℕ) → Before i ks → CheckAt i (refusing number place) ks
      → refusal number place ≡ first_to_apply ks otherwise
  stop-at [] otherwise i number place h e = absurd e
  stop-at (k ∷ ks) otherwise zero number place h e = rw e
  stop-at (k ∷ ks) otherwise (suc i) number place h e = rw h.0 (stop-at ks otherwise i number place h.1 e)

  pub stopped : {q : Refusal} {ks : List Check} (otherwise : Answer A) → Stopped q ks → refusal_of q ≡ first_to_apply ks otherwise
  stopped {q} {ks} otherwise s = stop-at ks otherwise s.at (row q).number (row q).place s.before s.here

  pub none-applies : (ks : List Check) (otherwise : Answer A) → Before (length ks) ks → otherwise ≡ first_to_apply ks otherwise
  none-applies [] otherwise h = refl
  none-applies (k ∷ ks) otherwise h = rw h.0 (none-applies ks otherwise h.1)

  -- and back, where the answer is a success
  past : (b : Bool) (k p : ℕ) (next : Answer A) (a : A) → cond b (refusal k p) next ≡ success a → (b ≡ false) × (next ≡ success a)
  past true k p next a e = absurd (no-success e)
  past false k p next a e = (refl, e)

  pub all_before : (ks : List Check) (otherwise : Answer A) (a : A) → first_to_apply ks otherwise ≡ success a
      → Before (length ks) ks × (otherwise ≡ success a)
  all_before [] otherwise a e = (tt, e)
  all_before (k ∷ ks) otherwise a e =
      let h = past k.applies k.number k.place (first_to_apply ks otherwise) a e in
      let t = all_before ks otherwise a h.1 in
      ((h.0, t.0), t.1)

  -- a check that does not apply where those before it do not can be left out
  pub skipped : (ks : List Check) (k : Check) (more : List Check) (otherwise : Answer A) → (Before (length ks) ks → k.applies ≡ false)
      → first_to_apply (ks ++ (k ∷ more)) otherwise ≡ first_to_apply (ks ++ more) otherwise
  skipped [] k more otherwise h = rw (h tt)
  skipped (c ∷ ks) k more otherwise h = by (λ e. skipped ks k more otherwise (λ l. h (e, l))) c.applies refl
    where
      by : (c.applies ≡ false → first_to_apply (ks ++ (k ∷ more)) otherwise ≡ first_to_apply (ks ++ more) otherwise) → (b : Bool) → c.applies ≡ b
          → cond c.applies (refusal c.number c.place) (first_to_apply (ks ++ (k ∷ more)) otherwise) ≡ cond c.applies (refusal c.number c.place) (first_to_apply (ks ++ more) otherwise)
      by next true e = rw e
      by next false e = rw e (next e)

-- ---- rows 1 to 3
pub span_passed : {n start : ℕ} → SpanFits n start → Before 3 (span_checks n start)
span_passed h = le-ltb _ _ h.least & le-ltb _ _ h.most & ap not h.inside & tt
