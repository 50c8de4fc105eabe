-- `members_sheet::checking::check_sheet` meets its contract: at each return, the checks before it did not apply.
use Prim.Native.Nat.{ℕ, ◌+◌, ◌*◌, ◌≤◌, ◌<◌}
use mathlib.Core.Path.{◌≡◌, refl, sym, ap, subst}
use mathlib.Core.Bool.{not}
use mathlib.Core.List.{List}
use native.Mathlib.Omega.{arith}
use borrow.Author.Tests.{lt-ltb, le-ltb, eq-eqb, ne_eqb}
use lib.ListN.{length, drop, get_or}
use Rattle.std.proofs.Common.{rules}
use Rattle.refusals.specs.declared.Refusal.{Refusal}
use Rattle.refusals.specs.declared.Refusal.TheVariants.{WrongLength, BadFileLength}
use Rattle.refusals.specs.Promises.{Before, SpanFits, Stopped, span_checks}
use Rattle.refusals.proofs.CheckLaws.{◌&◌, one_more, row-applies, stopped-after, stopped_more, stopped_on, span_passed}
use Rattle.little_endian.specs.Bytes.{Number}
use Rattle.desk_forms.specs.Header.{count_in, start_in}
use Rattle.desk_forms.proofs.FileLaws.{start_byte}
use Rattle.sheet_cells.specs.Cells.{sizes_length, sheet_length}
use Rattle.sheet_cells.specs.Promises.{HasCells}
use Rattle.members_sheet.specs.ReadSheet.{cells_from, sheet_checks}
use Rattle.members_sheet.proofs.checking.check_sheet.Goals as goal

-- the sheet b, with the count n that was read
module _ (b : List ℕ) (room : ℕ) {n : ℕ} (e : Number b 0 2 n) where
  counted : count_in b ≡ n
  unfolding count_in
  counted = sym e.value

  -- row 7 does not apply
  module _ (s : sizes_length ≤ length b) where
    in-span : {q : Refusal} → Stopped q (span_checks n (get_or b 2 0)) → Stopped q (sheet_checks b room)
    in-span {q} h =
        let k : Stopped q (span_checks (count_in b) (start_in b)) = rw (counted, start_byte b) h in
        stopped-after (le-ltb (length b) sizes_length s) (stopped_more (drop 4 (sheet_checks b room)) k)

    -- nor do rows 1 to 3
    module _ (f : SpanFits n (get_or b 2 0)) where
      span : SpanFits (count_in b) (start_in b)
      span = rw (counted, start_byte b) f

      before4 : Before 4 (sheet_checks b room)
      before4 = le-ltb _ _ s & span_passed span

      wrong-length : (length b ≡ 3 + 17 * n → ⊥) → Stopped BadFileLength (sheet_checks b room)
      wrong-length d = record { at = 4; before = before4; here = row-applies 9 (ap not (ne_eqb (length b) (sheet_length (count_in b)) (λ l. d (omega (arith, l, counted))))) }

      -- nor does row 9
      module _ (l : length b ≡ 3 + 17 * n) where
        before5 : Before 5 (sheet_checks b room)
        before5 = one_more (sheet_checks b room) 4 before4 (ap not (eq-eqb (length b) (sheet_length (count_in b)) (omega (arith, l, counted))))

        no-room : room < n → Stopped WrongLength (sheet_checks b room)
        no-room d = record { at = 5; before = before5; here = row-applies 4 (lt-ltb room (count_in b) (omega (arith, d, counted))) }

        has_cells : HasCells b n
        has_cells = record { count = sym counted; most = f.most; long = omega (arith, l) }

        -- nor does row 4
        module _ (r : n ≤ room) where
          before6 : Before 6 (sheet_checks b room)
          before6 = one_more (sheet_checks b room) 5 before5 (le-ltb room (count_in b) (omega (arith, r, counted)))

          in-cells : {q : Refusal} → Stopped q (cells_from b 0 n) → Stopped q (sheet_checks b room)
          in-cells {q} h = stopped_on (sheet_checks b room) 6 before6 (subst (λ (k : ℕ). Stopped q (cells_from b 0 k)) (sym counted) h)

pub returns-in_err-span : goal.returns-in_err-span
returns-in_err-span c = let s = in-span c.args.sheet.now c.args.room c.number_at-n.ensures c.if-sheet-lt-SIZES.false c.in_err-span.ensures in search (rules, s)

pub returns-then-sheet-n : goal.returns-then-sheet-n
returns-then-sheet-n c = wrong-length c.args.sheet.now c.args.room c.number_at-n.ensures c.if-sheet-lt-SIZES.false c.in_ok-span.ensures c.if-sheet-n.true

pub returns-then-room-n : goal.returns-then-room-n
returns-then-room-n c = no-room c.args.sheet.now c.args.room c.number_at-n.ensures c.if-sheet-lt-SIZES.false c.in_ok-span.ensures c.if-sheet-n.false c.if-room-n.true

pub invariant_of-cells : goal.invariant_of-cells
invariant_of-cells c = record { has_cells = has_cells c.args.sheet.now c.args.room c.number_at-n.ensures c.if-sheet-lt-SIZES.false c.in_ok-span.ensures c.if-sheet-n.false }

pub returns-in_err-check_cells : goal.returns-in_err-check_cells
returns-in_err-check_cells c =
    let s = in-cells c.args.sheet.now c.args.room c.number_at-n.ensures c.if-sheet-lt-SIZES.false c.in_ok-span.ensures c.if-sheet-n.false c.if-room-n.false c.in_err-check_cells.ensures in
    search (rules, s)

pub returns : goal.returns
returns c =
    record {
      passed = before6 c.args.sheet.now c.args.room c.number_at-n.ensures c.if-sheet-lt-SIZES.false c.in_ok-span.ensures c.if-sheet-n.false c.if-room-n.false;
      own = refl;
      begins = sym (start_byte c.args.sheet.now);
      enough = c.if-room-n.false;
    }
