-- `receipts::receipt::form_row` meets its contract: the terms are copied, `form` makes the predicate of them, and late names are taken out of it.
use Prim.Native.Nat.{ℕ, ◌+◌}
use mathlib.Core.Path.{◌≡◌, sym, ap, subst, ◌∙◌}
use mathlib.Core.List.{List, ◌++◌}
use native.Mathlib.Omega.{arith}
use lib.Dec.{T}
use lib.ListN.{length, take, drop, length-take}
use Rattle.predicates.specs.Predicates.{is_normal, formed}
use Rattle.predicates.proofs.PredicateLaws.{formed-normal}
use Rattle.message.specs.Words.{masks}
use Rattle.epochs.specs.Epochs.{withdraw}
use Rattle.epochs.proofs.WithdrawLaws.{withdraw_zero}
use Rattle.receipts.proofs.ReceiptCalls.{kept-front, terms-front}
use Rattle.receipts.proofs.receipt.form_row.Goals as goal
use Rattle.receipts.proofs.receipt.form_row.Goals.{After-form-n}

-- the predicate that is formed in the row
there : (c : After-form-n) → c.form-n.result ≡ length (formed c.args.own c.args.sender (masks c.args.words.now))
there c =
    c.form-n.ensures.value.0
    ∙ ap (λ (p : List ℕ). length (formed c.args.own c.args.sender p)) (terms-front c.args.words.now _ _ c.requires.0 c.copy_masks.ensures)

-- what stands at the front of it
kept : (c : After-form-n) → take c.form-n.result (c.form-n.new.terms ++ drop (length c.args.words.now + 1) c.copy_masks.new.row)
    ≡ formed c.args.own c.args.sender (masks c.args.words.now)
kept c =
    kept-front _ _ _ (drop (length c.args.words.now + 1) c.copy_masks.new.row) _ c.form-n.ensures.value.0
    (ap (λ (l : List ℕ). l ++ drop (length c.args.words.now + 1) c.copy_masks.new.row) c.form-n.ensures.terms_after)
    ∙ ap (formed c.args.own c.args.sender) (terms-front c.args.words.now _ _ c.requires.0 c.copy_masks.ensures)

pub returns-then-late-eq0 : goal.returns-then-late-eq0
returns-then-late-eq0 c =
    let a = c.args in
    let f = (goal.at.returns-then-late-eq0 c).After-form-n in
    let none : withdraw a.late (formed a.own a.sender (masks a.words.now)) ≡ formed a.own a.sender (masks a.words.now) =
    rw c.if-late-eq0.true (withdraw_zero (formed a.own a.sender (masks a.words.now)) (formed-normal a.own a.sender (masks a.words.now))) in
    record { value = (there f ∙ ap length (sym none), omega (arith, c.form-n.ensures.value.1, length-take {A = ℕ})); row_after = kept f ∙ sym none }

pub withdraw-requires : goal.withdraw-requires
withdraw-requires c =
    subst (λ (p : List ℕ). T (is_normal p)) (sym (kept (goal.at.withdraw-requires c).After-form-n)) (formed-normal c.args.own c.args.sender (masks c.args.words.now))

pub returns : goal.returns
returns c =
    let made = c.withdraw.ensures in
    let f = (goal.at.returns c).After-form-n in
    let same = ap (λ (p : List ℕ). withdraw c.args.late p) (kept f) in
    record {
      value = (made.value.0 ∙ ap length same, omega (arith, made.value.1, c.form-n.ensures.value.1, length-take {A = ℕ}));
      row_after = kept-front _ _ _ _ _ made.value.0 (ap (λ (l : List ℕ). l ++ drop c.form-n.result (c.form-n.new.terms ++ drop (length c.args.words.now + 1) c.copy_masks.new.row)) made.terms_after) ∙ same;
    }
