-- How stores follow each other.
use Prim.Native.Nat.{ℕ, ◌+◌, ◌-◌, ◌≤◌}
use mathlib.Core.Path.{◌≡◌, refl, ◌∙◌, ap, sym}
use mathlib.Core.List.{List, [], ◌++◌, append_assoc}
use native.Mathlib.Omega.{arith}
use lib.ListN.{length, length-append}
use lib.Seq.{sets, length-sets, sets-eq, drop-drop}
use Rattle.integers.proofs.Stores.{sets-append}
use borrow.Rule.Slice.PartMut.{put_mid}
use Rattle.decimals.specs.declared.Text.{Text}
use Rattle.decimals.specs.Storing.{Stored, Put}

pub stored-as : {most : ℕ} {before : List ℕ} {at : ℕ} {bytes : List ℕ} {next : ℕ} {after : List ℕ} → after ≡ sets before at bytes → next ≡ at + length bytes → length bytes ≤ most
    → Stored most before at bytes next after
stored-as {most} {before} {at} {bytes} {next} {after} s e h =
    record { stored = s; ends = e; short = h; long = ap length s ∙ length-sets before at bytes }

-- one store after the other
pub stored-then : {a b : ℕ} {before mid after : List ℕ} {at m next : ℕ} {xs ys : List ℕ} → Stored a before at xs m mid → Stored b mid m ys next after → Stored (a + b) before at (xs ++ ys) next after
stored-then {a} {b} {before} {mid} {after} {at} {m} {next} {xs} {ys} p q =
    stored-as
    (q.stored ∙ ap (λ (l : List ℕ). sets l m ys) p.stored ∙ sym (sets-append before at m xs ys p.ends))
    (omega (arith, length-append xs ys))
    (omega (arith, length-append xs ys))

-- a word that is copied into the part that was lent for it
pub word-copied : (l word copy : List ℕ) (at : ℕ) → at + length word ≤ length l → copy ≡ word → put_mid at (at + length word - at) l copy ≡ sets l at word
word-copied l word copy at h e =
    let k : at + length word - at ≡ length word = omega arith in
    rw (e, k, drop-drop (length word) at l, sets-eq word l at h, append_assoc)

-- ---- a text that goes on in its slice
module _ {x : Text} where
  pub put-nothing : Put 0 x [] x
  put-nothing = record { same = refl; stored = stored-as refl (omega arith) (omega arith) }

  -- one after the other
  pub put-then : {a b : ℕ} {y z : Text} {xs ys : List ℕ} → Put a x xs y → Put b y ys z → Put (a + b) x (xs ++ ys) z
  put-then p q = record { same = q.same ∙ p.same; stored = stored-then p.stored q.stored }

  -- the same, of bytes that are equal, or counted otherwise
  pub put-eq : {most : ℕ} {y : Text} {xs ys : List ℕ} → xs ≡ ys → Put most x xs y → Put most x ys y
  put-eq e p = rw e at p

  pub put_short : {a most : ℕ} {y : Text} {xs : List ℕ} → Put a x xs y → length xs ≤ most → Put most x xs y
  put_short p h = record { same = p.same; stored = stored-as p.stored.stored p.stored.ends h }

  pub put-within : {a most : ℕ} {y : Text} {xs : List ℕ} → Put a x xs y → a ≤ most → Put most x xs y
  put-within p h = put_short p (omega (arith, p.stored.short))

-- a text that is put in a slice from its first place on
pub stored-in : {most : ℕ} {lent bytes out : List ℕ} {x y : Text} → x.out.now ≡ lent → x.at ≡ 0 → Put most x bytes y → out ≡ y.out.now → Stored most lent 0 bytes y.at out
stored-in {most} {lent} {bytes} {out} {x} {y} l a p e = rw (l, a, ← e) at p.stored
