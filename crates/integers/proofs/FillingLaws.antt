-- Laws of `tab`, and of `Filled`, the invariant of every loop that fills a slice.
use Prim.Native.Nat.{ℕ, zero, suc, ◌+◌, ◌-◌, ◌≤◌, ◌<◌}
use mathlib.Core.Path.{◌≡◌, refl, sym, ap, subst, subst⁻¹, ◌∙◌}
use mathlib.Core.Logic.{inl, inr, ⊎_elim}
use mathlib.Core.List.{List, ◌++◌}
use native.Mathlib.Nat.{not-suc-le-zero, le_of_suc-le-suc, add-zero, add-suc, suc-add, zero-add}
use native.Mathlib.Decide.{dec_le, ℕ_discrete}
use native.Mathlib.Omega.{arith}
use lib.ListN.{length, get_or, set, drop, length-set, length-append, length-drop, get_or-eq_default, get_or-append}
use lib.Seq.{ext_get_or, get_or-set_same, get_or-set_other, get_or-append-add, get_or-drop}
use lib.IntN.{ℤ, pos}
use Rattle.integers.specs.Sizes.{◌within◌}
use Rattle.integers.proofs.SizeLaws.{by-abs}
use Rattle.integers.specs.Filling.{Filled}
use Rattle.integers.specs.Lists.{tab_from, tab, AllWithin}

-- ---- a list made place by place
module _ {A : Type 0} where
  length-tab_from : (lo n : ℕ) (f : ℕ → A) → length (tab_from lo n f) ≡ n
  unfolding tab_from
  length-tab_from lo zero f = refl
  length-tab_from lo (suc n) f = ap suc (length-tab_from (suc lo) n f)

  at-tab_from : (d : A) (lo n : ℕ) (f : ℕ → A) (i : ℕ) → i < n → get_or (tab_from lo n f) i d ≡ f (lo + i)
  unfolding tab_from
  at-tab_from d lo zero f i h = absurd (not-suc-le-zero h)
  at-tab_from d lo (suc n) f zero h = ap f (sym (add-zero lo))
  at-tab_from d lo (suc n) f (suc i) h = at-tab_from d (suc lo) n f i (le_of_suc-le-suc h) ∙ ap f (suc-add lo i ∙ sym (add-suc lo i))

  pub length-tab : (n : ℕ) (f : ℕ → A) → length (tab n f) ≡ n
  unfolding tab
  length-tab n f = length-tab_from 0 n f

  pub at-tab : (d : A) (n : ℕ) (f : ℕ → A) (i : ℕ) → i < n → get_or (tab n f) i d ≡ f i
  unfolding tab
  at-tab d n f i h = at-tab_from d 0 n f i h ∙ ap f (zero-add i)

  -- a list of n that is f at each place
  pub tab-same : (d : A) (n : ℕ) (f : ℕ → A) (xs : List A) → length xs ≡ n → ((i : ℕ) → i < n → get_or xs i d ≡ f i) → xs ≡ tab n f
  tab-same d n f xs e h = ext_get_or d xs (tab n f) (e ∙ sym (length-tab n f)) (λ i l. let k : i < n = omega arith in h i k ∙ sym (at-tab d n f i k))

  -- what holds of every value holds at every place, past the end too
  pub tab-each : (P : A → Type 0) (d : A) (n : ℕ) (f : ℕ → A) → P d → ((t : ℕ) → P (f t)) → (t : ℕ) → P (get_or (tab n f) t d)
  tab-each P d n f h k t = go (dec_le (t + 1) n)
    where
      go : Dec (t + 1 ≤ n) → P (get_or (tab n f) t d)
      go (yes l) = subst⁻¹ P (at-tab d n f t (omega arith)) (k t)
      go (no l) = subst⁻¹ P (get_or-eq_default (tab n f) d (omega (arith, length-tab n f))) h

pub tab-within : (b n : ℕ) (f : ℕ → ℤ) → ((t : ℕ) → f t within b) → AllWithin b (tab n f)
tab-within b n f h = record { at = tab-each (λ (z : ℤ). z within b) (pos 0) n f (by-abs (omega arith)) h }

-- ---- a slice that is filled
module _ {A : Type 0} {d : A} {f : ℕ → A} where
  pub filled_none : {lo : ℕ} {old : List A} → Filled d f lo lo old old
  filled_none = record { long = refl; here = λ k l m. absurd (omega arith); rest = λ k l. refl }

  -- one place more
  pub filled_more : {lo t : ℕ} {v : A} {old new : List A} → Filled d f lo t old new → lo ≤ t → t < length new → v ≡ f t → Filled d f lo (t + 1) old (set new t v)
  filled_more {lo} {t} {v} {old} {new} p a b e = record {
    long = length-set new t v ∙ p.long;
    here = λ k l m. at k l m (ℕ_discrete k t);
    rest = λ k l. get_or-set_other new t k v d (⊎_elim (λ (m : k < lo) q. omega arith) (λ (m : t + 1 ≤ k) q. omega arith) l) ∙ p.rest k (⊎_elim (λ m. inl m) (λ (m : t + 1 ≤ k). inr (omega arith)) l);
  }
    where
      at : (k : ℕ) → lo ≤ k → k < t + 1 → Dec (k ≡ t) → get_or (set new t v) k d ≡ f k
      at k l m (yes q) = subst (λ (j : ℕ). get_or (set new t v) j d ≡ f j) (sym q) (get_or-set_same new t v d b ∙ e)
      at k l m (no q) = get_or-set_other new t k v d q ∙ p.here k l (omega arith)

  -- a further stretch, by a function that agrees there
  pub filled_on : {g : ℕ → A} {lo mid hi : ℕ} {a b c : List A} → Filled d f lo mid a b → Filled d g mid hi b c → lo ≤ mid → mid ≤ hi → ((k : ℕ) → mid ≤ k → k < hi → g k ≡ f k)
      → Filled d f lo hi a c
  filled_on {g} {lo} {mid} {hi} {a} {b} {c} p q l h e = record {
    long = q.long ∙ p.long;
    here = λ k i m. at k i m (dec_le mid k);
    rest = λ k i. q.rest k (⊎_elim (λ (m : k < lo). inl (omega arith)) (λ m. inr m) i) ∙ p.rest k (⊎_elim (λ m. inl m) (λ (m : hi ≤ k). inr (omega arith)) i);
  }
    where
      at : (k : ℕ) → lo ≤ k → k < hi → Dec (mid ≤ k) → get_or c k d ≡ f k
      at k i m (yes n) = q.here k n m ∙ e k n m
      at k i m (no n) = q.rest k (inl (omega arith)) ∙ p.here k i (omega arith)

  -- filled by a function that agrees there
  pub filled_as : {g : ℕ → A} {lo hi : ℕ} {old new : List A} → Filled d g lo hi old new → ((k : ℕ) → lo ≤ k → k < hi → g k ≡ f k) → Filled d f lo hi old new
  filled_as p e = record { long = p.long; here = λ k l m. p.here k l m ∙ e k l m; rest = p.rest }

  -- filled twice at the same places: the later filling counts
  pub filled_again : {g : ℕ → A} {lo hi : ℕ} {a b c : List A} → Filled d g lo hi a b → Filled d f lo hi b c → Filled d f lo hi a c
  filled_again p q = record { long = q.long ∙ p.long; here = q.here; rest = λ k l. q.rest k l ∙ p.rest k l }

  -- the whole slice is filled
  pub filled-tab : {t n : ℕ} {old new : List A} → Filled d f 0 t old new → t ≡ n → length old ≡ n → new ≡ tab n f
  filled-tab {t} {n} {old} {new} p e l = tab-same d n f new (p.long ∙ l) (λ i h. p.here i (omega arith) (omega arith))

  -- its front is filled, and its tail stays
  pub filled_front : {t n : ℕ} {old new : List A} → Filled d f 0 t old new → t ≡ n → n ≤ length old → new ≡ tab n f ++ drop n old
  filled_front {t} {n} {old} {new} p e l = ext_get_or d new (tab n f ++ drop n old) same (λ i h. at i h (dec_le n i))
    where
      len : length (tab n f) ≡ n
      len = length-tab n f

      same : length new ≡ length (tab n f ++ drop n old)
      same = simp (length-append, length-drop) (omega (arith, len, p.long))

      at : (i : ℕ) → i < length new → Dec (n ≤ i) → get_or new i d ≡ get_or (tab n f ++ drop n old) i d
      at i h (no k) = p.here i (omega arith) (omega arith) ∙ sym (get_or-append (tab n f) (drop n old) d i (omega (arith, len)) ∙ at-tab d n f i (omega arith))
      at i h (yes k) = let q : i ≡ length (tab n f) + (i - n) = omega (arith, len) in
          p.rest i (inr (omega arith)) ∙ sym (ap (λ (j : ℕ). get_or (tab n f ++ drop n old) j d) q ∙ get_or-append-add (tab n f) (drop n old) (i - n) d ∙ get_or-drop n old (i - n) d ∙ ap (λ (j : ℕ). get_or old j d) (omega arith))
