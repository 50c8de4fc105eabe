-- The three nearest, one by one: what was taken so far, and what is still to come.
use mathlib.Core.Path.{◌≡◌, refl, sym, ap, ap₂, ◌∙◌}
use mathlib.Core.Bool.{Bool, true, false, cond}
use mathlib.Core.List.{List, [], ◌∷◌}
use Prim.Native.Nat.{ℕ, suc, ◌+◌, ◌*◌, ◌-◌, ◌≤◌, ◌<◌}
use native.Mathlib.Omega.{arith}
use lib.ListN.{length}
use lib.IntN.{ℤ, pos, ◌+ℤ◌}
use mir.Syntax.{w64}
use mir.Val.{to_z, of_z}
use Rattle.std.proofs.lemmas.Option.{IfSome_then}
use Rattle.std.specs.Prelude.{leb, Option, Some, None, IfSome}
use Rattle.integers.specs.Sizes.{◌within◌}
use Rattle.integers.specs.Lists.{◌‼◌, AllWithin}
use Rattle.integers.proofs.Differences.{rep, ringℤ}
use Rattle.integers.proofs.SizeLaws.{w+, w≤}
use Rattle.integers.proofs.Signed64.{Reads, i+, i_in}
use Rattle.filters.specs.Promises.{largest}
use Rattle.replacing.specs.Neighbours.{full_before, full_after, nearest}
use Rattle.replacing.specs.Replaced.{sum_at}
use Rattle.replacing.specs.Promises.{list_from, nearer, Back, Ahead, SumAndCountOf}

-- ---- which place is next, of the earlier place a and the later place b; E and L are the lists that follow a place on either side
module _ (t k : ℕ) (E L : ℕ → List ℕ) where
  none-next : (a b : Option ℕ) → nearer t a b ≡ None → nearest (suc k) t (list_from E a) (list_from L b) ≡ []
  unfolding nearest
  none-next None None e = refl
  none-next None (Some q) e = absurd cc
  none-next (Some p) None e = absurd cc
  none-next (Some p) (Some q) e = absurd cc

  earlier-next : (a b : Option ℕ) (r : ℕ) → nearer t a b ≡ Some r → r < t → IfSome b (λ q. t < q) → nearest (suc k) t (list_from E a) (list_from L b) ≡ r ∷ nearest k t (E r) (list_from L b)
  unfolding nearest
  earlier-next None None r e l h = absurd cc
  earlier-next None (Some q) r e l h = let i : q ≡ r = cc in absurd (omega arith)
  earlier-next (Some p) None r e l h = let i : p ≡ r = cc in rw i
  earlier-next (Some p) (Some q) r e l h = go (leb (t - p) (q - t)) e
    where
      go : (c : Bool) → Some (cond c p q) ≡ Some r → cond c (p ∷ nearest k t (E p) (q ∷ L q)) (q ∷ nearest k t (p ∷ E p) (L q)) ≡ r ∷ nearest k t (E r) (q ∷ L q)
      go true e = let i : p ≡ r = cc in rw i
      go false e = let i : q ≡ r = cc in absurd (omega arith)

  later-next : (a b : Option ℕ) (r : ℕ) → nearer t a b ≡ Some r → t ≤ r → IfSome a (λ p. p < t) → nearest (suc k) t (list_from E a) (list_from L b) ≡ r ∷ nearest k t (list_from E a) (L r)
  unfolding nearest
  later-next None None r e l h = absurd cc
  later-next None (Some q) r e l h = let i : q ≡ r = cc in rw i
  later-next (Some p) None r e l h = let i : p ≡ r = cc in absurd (omega arith)
  later-next (Some p) (Some q) r e l h = go (leb (t - p) (q - t)) e
    where
      go : (c : Bool) → Some (cond c p q) ≡ Some r → cond c (p ∷ nearest k t (E p) (q ∷ L q)) (q ∷ nearest k t (p ∷ E p) (L q)) ≡ r ∷ nearest k t (p ∷ E p) (L r)
      go true e = let i : p ≡ r = cc in absurd (omega arith)
      go false e = let i : q ≡ r = cc in rw i

-- ---- what is still to come, of `left` places at most, where a and b are the next on either side
unfoldable pub coming : ℕ → List ℕ → ℕ → Option ℕ → Option ℕ → ℕ → List ℕ
coming period w t a b left = nearest left t (list_from (full_before period w) a) (list_from (full_after period w) b)

-- the three nearest
abbrev pub three : ℕ → List ℕ → ℕ → List ℕ
three period w t = nearest 3 t (full_before period w t) (full_after period w t)

-- `count` places are taken, and s is the sum of their values
pub record Choosing (period : ℕ) (x : List ℤ) (w : List ℕ) (t : ℕ) (a b : Option ℕ) (count : ℕ) (s : ℤ) : Type 0 where
  pub sum_is : s +ℤ sum_at x (coming period w t a b (3 - count)) ≡ sum_at x (three period w t)
  pub count_is : count + length (coming period w t a b (3 - count)) ≡ length (three period w t)
  pub small : s within count * largest
  pub earlier_side : IfSome a (λ q. q < t)
  pub later_side : IfSome b (λ q. (t < q) × (q < length w))

module _ {period : ℕ} {x : List ℤ} {w : List ℕ} {t : ℕ} where
  pub choose_start : (a b : Option ℕ) → Back period w t a → Ahead period w t b → Choosing period x w t a b 0 (pos 0)
  unfolding coming
  choose_start a b g h = let e : coming period w t a b 3 ≡ three period w t = ap₂ (nearest 3 t) (sym (g.same)) (sym (h.same)) in record {
    sum_is = zero_plus (sum_at x (coming period w t a b 3)) ∙ ap (sum_at x) e;
    count_is = omega (arith, ap length e);
    small = omega arith;
    earlier_side = g.side;
    later_side = h.side;
  }
    where
      zero_plus : (z : ℤ) → pos 0 +ℤ z ≡ z
      zero_plus z = rw (rep z) (simp ringℤ (omega arith))

  module _ {a b : Option ℕ} {count : ℕ} {s : ℤ} (g : Choosing period x w t a b count s) where
    -- one value more, as the code adds it
    pub choose_adds : AllWithin largest x → count < 3 → (p : ℕ) → Reads (s +ℤ to_z w64 (of_z w64 (x ‼ p))) (s +ℤ (x ‼ p)) (3 * largest + largest)
    choose_adds y h p = i+ {A = 3 * largest} (record { eq = refl; bound = w≤ g.small (omega arith) }) (i_in (y.at p) tt)

    -- nothing is to come
    chosen : coming period w t a b (3 - count) ≡ [] → SumAndCountOf x (three period w t) s count
    unfolding sum_at
    chosen e = record { sum_is = plus-zero s ∙ (rw e at g.sum_is); count_is = omega (arith, g.count_is, ap length e) }
      where
        plus-zero : (z : ℤ) → z ≡ z +ℤ pos 0
        plus-zero z = rw (rep z) (simp ringℤ (omega arith))

    module _ (h : count < 3) where
      one_less : 3 - count ≡ suc (3 - (count + 1))
      one_less = omega arith

      pub choose_none : nearer t a b ≡ None → SumAndCountOf x (three period w t) s count
      unfolding coming
      choose_none e = chosen (rw one_less (none-next t (3 - (count + 1)) (full_before period w) (full_after period w) a b e))

      -- r is taken, and a' and b' are next
      taken : (a' b' : Option ℕ) (r : ℕ) {s' : ℤ} → coming period w t a b (3 - count) ≡ r ∷ coming period w t a' b' (3 - (count + 1)) → s' ≡ s +ℤ (x ‼ r) → AllWithin largest x
          → IfSome a' (λ q. q < t) → IfSome b' (λ q. (t < q) × (q < length w)) → Choosing period x w t a' b' (count + 1) s'
      unfolding sum_at
      taken a' b' r f more y u v = record {
        sum_is = rw more (assoc s (x ‼ r) (sum_at x (coming period w t a' b' (3 - (count + 1)))) ∙ (rw f at g.sum_is));
        count_is = omega (arith, g.count_is, ap length f);
        small = rw more (w≤ (w+ g.small (y.at r)) (omega arith));
        earlier_side = u;
        later_side = v;
      }
        where
          assoc : (a b c : ℤ) → (a +ℤ b) +ℤ c ≡ a +ℤ (b +ℤ c)
          assoc a b c = rw (rep a, rep b, rep c) (simp ringℤ (omega arith))

      pub choose_earlier : (a' : Option ℕ) (r : ℕ) {s' : ℤ} → nearer t a b ≡ Some r → r < t → s' ≡ s +ℤ (x ‼ r) → AllWithin largest x → Back period w r a' → Choosing period x w t a' b (count + 1) s'
      unfolding coming
      choose_earlier a' r e l more y k =
          taken a' b r (rw (one_less, ← k.same) (earlier-next t (3 - (count + 1)) (full_before period w) (full_after period w) a b r e l (IfSome_then b g.later_side (λ q i. i.0)))) more y (IfSome_then a' k.side (λ q i. omega arith)) g.later_side

      pub choose_later : (b' : Option ℕ) (r : ℕ) {s' : ℤ} → nearer t a b ≡ Some r → t ≤ r → s' ≡ s +ℤ (x ‼ r) → AllWithin largest x → Ahead period w r b' → Choosing period x w t a b' (count + 1) s'
      unfolding coming
      choose_later b' r e l more y k =
          taken a b' r (rw (one_less, ← k.same) (later-next t (3 - (count + 1)) (full_before period w) (full_after period w) a b r e l g.earlier_side)) more y g.earlier_side (IfSome_then b' k.side (λ q i. (omega arith, i.1)))

  -- three are taken
  pub choose_end : {a b : Option ℕ} {s : ℤ} → Choosing period x w t a b 3 s → SumAndCountOf x (three period w t) s 3
  unfolding coming nearest
  choose_end g = chosen g refl
