-- Two orders of the same receipts give the same answers and the same fewest failures (document 02, W-206; `AnyOrder`).
-- The idea: the two books at the end are compared, never the runs between, where another order may be refused. By swaps of neighbours
-- (`proofs.Swaps`) the receipts with readings go in front, in the order that both lists have those of each sender in; those without change places
-- freely, so they follow the permutation. The books then let the same paths through, for every set of names, and set by set the states allow the same
-- instants. That one book lets through no more than another is `Less`, of demand 3's second half. Assumes nothing.
use Prim.Native.Nat.{ℕ}
use mathlib.Core.Path.{◌≡◌, refl, sym, ap, subst, ◌∙◌}
use mathlib.Core.Logic.{◌⊎◌, inl, inr, ⊎_elim}
use mathlib.Core.Bool.{Bool, true, false, not, cond}
use mathlib.Core.List.{List, [], ◌∷◌, ◌++◌}
use mathlib.Core.List.Permᴰ
use mathlib.Core.List.{Permᴰ}
use lib.Dec.{T, T_not, not_T, eqb, eqb→eq, eqb_refl}
use lib.IntN.{ℤ}
use Rattle.std.specs.List.{filter}
use Rattle.predicates.specs.Lists.{In}
use Rattle.predicates.proofs.ListLaws.{both, both_l, both_r, split, cond_ind, in_l, in_r, in_cases, all_in, perm_in}
use Rattle.predicates.proofs.ListLaws.{keep_out, keep_passed, keep_failed, keep_all, keep-none_out, keep_append, keep-without, FirstKept, first-kept}
use Rattle.clocks.specs.Clocks.{watched}
use Rattle.state.specs.Model.{Head}
use Rattle.state.specs.Layout.{head_of, store_of, state_of}
use Rattle.state.specs.Refusal.{after}
use Rattle.engine.specs.Hearing.{heeded}
use Rattle.asking.specs.Instants.{Allowed, Fine, Counts}
use Rattle.asking.specs.Asking.{exact, rounded, answer}
use Rattle.asking.specs.Fewest.{Works, fewest}
use Rattle.asking.proofs.AnswerLaws.{gives_one, gives_same, answer-given}
use Rattle.asking.proofs.FewestLaws.{fewest_is, fewest_only}
use Rattle.monitor.specs.Receive.{Delivered, refused, brings, delivered}
use Rattle.monitor.specs.Ask.{asked_bytes, ask_output, fewest_bytes, fewest_output}
use Rattle.runs.specs.Book.{Request, ageing, receipt, Book, entered, entered_delivery, entered_request}
use Rattle.runs.specs.Runs.{bytes_after, bytes_run, steps, Run, state_after, book, taken_of, Quiet}
use Rattle.runs.specs.Orders.{Reordered, NoAgeing, NoEpochChange, NoneRefused, is_given, timed, carries, ReadingsKept, SameAnswers}
use Rattle.runs.specs.Orders.{OneBatch, AnyOrder, AnyOrderLater}
use Rattle.runs.proofs.Runs.{Sound, run_sound, reached}
use Rattle.runs.proofs.Answers.{fewest-same}
use Rattle.runs.proofs.Demand3.{ask-taken, fewest-taken}
use Rattle.runs.proofs.Further.{written, book-written, Less, less_refl, less_both, less_sees}
use Rattle.runs.proofs.Swaps.{plain_moved, Batch, swap_less}

-- ---- books that let through the same

abbrev SamePaths : Book → Book → Type 0
SamePaths b c = Less b c × Less c b

same_refl : (b : Book) → SamePaths b b
same_refl b = (less_refl b, less_refl b)

less_trans : (b c d : Book) → Less b c → Less c d → Less b d
less_trans b c d l k = record { head = l.head ∙ k.head; ends = λ v x p. k.ends v x (l.ends v x p) }

same_trans : (b c d : Book) → SamePaths b c → SamePaths c d → SamePaths b d
same_trans b c d s t = (less_trans b c d s.0 t.0, less_trans d c b t.1 s.1)

less_all : (qs : List Request) (b c : Book) → Less b c → Less (written b qs) (written c qs)
unfolding written
less_all [] b c l = l
less_all (q ∷ qs) b c l = less_all qs (entered_request b q) (entered_request c q) (less_both b c l q)

-- the same requests behind both
same-all : (qs : List Request) (b c : Book) → SamePaths b c → SamePaths (written b qs) (written c qs)
same-all qs b c s = (less_all qs b c s.0, less_all qs c b s.1)

written-append : (xs ys : List Request) (b : Book) → written b (xs ++ ys) ≡ written (written b xs) ys
unfolding written
written-append [] ys b = refl
written-append (x ∷ xs) ys b = written-append xs ys (entered_request b x)

-- ---- requests

-- what holds of every request
abbrev Each : (Request → Type 0) → List Request → Type 0
Each P qs = (q : Request) → In q qs → P q

each-others : (P : Request → Type 0) (ls : List Request) (x : Request) (rs : List Request) → Each P (ls ++ (x ∷ rs)) → Each P (ls ++ rs)
each-others P ls x rs ps q m = ps q (⊎_elim (λ i. in_l q ls (x ∷ rs) i) (λ i. in_r q ls (x ∷ rs) (inr i)) (in_cases q ls rs m))

each_perm : (P : Request → Type 0) {xs ys : List Request} → Permᴰ xs ys → Each P xs → Each P ys
each_perm P d ps q m = ps q (perm_in (Permᴰ.symm d) q m)

module _ (h : Head) where
  -- a receipt that brings no epoch above the known one
  abbrev Plain : Request → Type 0
  Plain (ageing reading) = ⊥
  Plain (receipt g) = Quiet h (delivered g)

  -- no sender of whom both carry readings
  abbrev Unrelated : Request → Request → Type 0
  Unrelated x y = (n : ℕ) → T (carries h n x) → T (carries h n y) → ⊥

  batch_next : (b : Book) → Batch h b → (q : Request) → Plain q → Batch h (entered_request b q)
  unfolding entered_request entered_delivery entered
  batch_next b (cs, e) (ageing reading) p = absurd p
  batch_next b (cs, e) (receipt g) p = go (delivered g) p
    where
      go : (d : Delivered) → Quiet h d → Batch h (entered_delivery b d)
      go (refused number) q = (cs, e)
      go (brings d) q = (watched (heeded h d) d.sender cs, rw e (plain_moved h d q cs))

  batch-written : (qs : List Request) (b : Book) → Batch h b → Each Plain qs → Batch h (written b qs)
  unfolding written
  batch-written [] b k ps = k
  batch-written (q ∷ qs) b k ps = batch-written qs (entered_request b q) (batch_next b k q (ps q (inl refl))) (λ x m. ps x (inr m))

  swap_request : (b : Book) → Batch h b → (x y : Request) → Plain x → Plain y → Unrelated x y
      → Less (entered_request (entered_request b x) y) (entered_request (entered_request b y) x)
  unfolding entered_request entered_delivery
  swap_request b k (ageing reading) y p q a = absurd p
  swap_request b k (receipt f) (ageing reading) p q a = absurd q
  swap_request b k (receipt f) (receipt g) p q a = go (delivered f) (delivered g) p q a
    where
      go : (d e : Delivered) → Quiet h d → Quiet h e → ((n : ℕ) → T (timed h n d) → T (timed h n e) → ⊥)
          → Less (entered_delivery (entered_delivery b d) e) (entered_delivery (entered_delivery b e) d)
      go (refused number) e p q a = less_refl (entered_delivery b e)
      go (brings d) (refused number) p q a = less_refl (entered_delivery b (brings d))
      go (brings d) (brings e) p q a = swap_less h b k d e p q a

  swap_same : (b : Book) → Batch h b → (x y : Request) → Plain x → Plain y → Unrelated x y
      → SamePaths (entered_request (entered_request b x) y) (entered_request (entered_request b y) x)
  swap_same b k x y p q a = (swap_request b k x y p q a, swap_request b k y x q p (λ n s t. a n t s))

  -- x to the front, past requests that are unrelated to it
  to_front : (ls rs : List Request) (x : Request) (b : Book) → Batch h b → Each Plain ls → Plain x → Each (Unrelated x) ls
      → SamePaths (written b (ls ++ (x ∷ rs))) (written b (x ∷ (ls ++ rs)))
  unfolding written
  to_front [] rs x b k ps p a = same_refl (written b (x ∷ rs))
  to_front (y ∷ ls) rs x b k ps p a =
      let py = ps y (inl refl) in
      same_trans (written b (y ∷ (ls ++ (x ∷ rs)))) (written b (y ∷ (x ∷ (ls ++ rs)))) (written b (x ∷ (y ∷ (ls ++ rs))))
      (to_front ls rs x (entered_request b y) (batch_next b k y py) (λ q m. ps q (inr m)) p (λ q m. a q (inr m)))
      (same-all (ls ++ rs) (entered_request (entered_request b y) x) (entered_request (entered_request b x) y)
      (swap_same b k y x py p (λ n s t. a y (inl refl) n t s)))

  -- ---- receipts with readings in front

  -- it carries readings that are heeded, whoever sends it
  abbrev is_timed_as : Delivered → Bool
  is_timed_as (refused number) = false
  is_timed_as (brings d) = is_given (heeded h d)

  abbrev is_timed : Request → Bool
  is_timed (ageing reading) = false
  is_timed (receipt g) = is_timed_as (delivered g)

  abbrev is_untimed : Request → Bool
  is_untimed q = not (is_timed q)

  carries-timed : (q : Request) (n : ℕ) → T (carries h n q) → T (is_timed q)
  carries-timed (ageing reading) n t = t
  carries-timed (receipt g) n t = go (delivered g) t
    where
      go : (d : Delivered) → T (timed h n d) → T (is_timed_as d)
      go (refused number) t = t
      go (brings d) t = both_r (eqb d.sender n) (is_given (heeded h d)) t

  timed-carries : (q : Request) → T (is_timed q) → (n : ℕ) × T (carries h n q)
  timed-carries (ageing reading) t = absurd t
  timed-carries (receipt g) t = go (delivered g) t
    where
      go : (d : Delivered) → T (is_timed_as d) → (n : ℕ) × T (timed h n d)
      go (refused number) t = absurd t
      go (brings d) t = (d.sender, both (eqb d.sender d.sender) (is_given (heeded h d)) (eqb_refl d.sender) t)

  untimed_carries : (q : Request) → T (is_untimed q) → (n : ℕ) → T (not (carries h n q))
  untimed_carries q t n = not_T (carries h n q) (λ c. T_not (is_timed q) t (carries-timed q n c))

  -- of one sender alone
  carries-one : (q : Request) (n m : ℕ) → T (carries h n q) → T (carries h m q) → n ≡ m
  carries-one (ageing reading) n m s t = absurd s
  carries-one (receipt g) n m s t = go (delivered g) s t
    where
      go : (d : Delivered) → T (timed h n d) → T (timed h m d) → n ≡ m
      go (refused number) s t = absurd s
      go (brings d) s t =
          sym (eqb→eq d.sender n (both_l (eqb d.sender n) (is_given (heeded h d)) s))
          ∙ eqb→eq d.sender m (both_l (eqb d.sender m) (is_given (heeded h d)) t)

  -- a request that carries readings of n is unrelated to those that do not
  unrelated_kept : (x : Request) (n : ℕ) → T (carries h n x) → (ls : List Request) → filter (carries h n) ls ≡ [] → Each (Unrelated x) ls
  unrelated_kept x n t ls e q m k s u =
      keep-none_out (carries h n) ls e q m (subst (λ (i : ℕ). T (carries h i q)) (carries-one x k n s t) u)

  -- where no sender has any, no request has
  none-timed : (ys : List Request) → ((n : ℕ) → filter (carries h n) ys ≡ []) → filter is_untimed ys ≡ ys
  none-timed ys e =
      keep_all is_untimed ys
      (all_in is_untimed ys (λ q m. not_T (is_timed q) (λ t. let c = timed-carries q t in keep-none_out (carries h c.0) ys (e c.0) q m c.1)))

  -- x, the first of a list, stands between ls and rs in another, the first there with readings of its sender
  module _ (x : Request) (xs ls rs : List Request) (n : ℕ) (c : T (carries h n x)) (before : filter (carries h n) ls ≡ [])
      (behind : filter (carries h n) rs ≡ filter (carries h n) xs) where
    others-kept : ReadingsKept h (x ∷ xs) (ls ++ (x ∷ rs)) → ReadingsKept h xs (ls ++ rs)
    others-kept e m = go (split (carries h m x))
      where
        go : T (carries h m x) ⊎ T (not (carries h m x)) → filter (carries h m) xs ≡ filter (carries h m) (ls ++ rs)
        go (inl t) =
            subst (λ (i : ℕ). filter (carries h i) xs ≡ filter (carries h i) (ls ++ rs)) (carries-one x n m c t)
            (sym (keep_append (carries h n) ls rs ∙ rw (before, behind)))
        go (inr t) = sym (keep_failed (carries h m) x xs t) ∙ e m ∙ keep-without (carries h m) ls x rs t

    -- it goes in front, and then the others follow
    timed_next : (b : Book) → Batch h b → Each Plain (ls ++ (x ∷ rs))
        → SamePaths (written (entered_request b x) (ls ++ rs)) (written (entered_request b x) (filter is_timed xs ++ filter is_untimed (ls ++ rs)))
        → SamePaths (written b (ls ++ (x ∷ rs))) (written b (filter is_timed (x ∷ xs) ++ filter is_untimed (ls ++ (x ∷ rs))))
    unfolding written
    timed_next b k ps rest =
        let t = carries-timed x n c in
        rw (keep_passed is_timed x xs t, keep-without is_untimed ls x rs (not_T (is_untimed x) (λ u. T_not (is_timed x) u t)))
        (same_trans (written b (ls ++ (x ∷ rs))) (written b (x ∷ (ls ++ rs))) (written b (x ∷ (filter is_timed xs ++ filter is_untimed (ls ++ rs))))
        (to_front ls rs x b k (λ q m. ps q (in_l q ls (x ∷ rs) m)) (ps x (in_r x ls (x ∷ rs) (inl refl))) (unrelated_kept x n c ls before)) rest)

  -- ys, which has of each sender what xs has: those of xs with readings, then its own without
  timed-first : (xs ys : List Request) (b : Book) → Batch h b → Each Plain ys → ReadingsKept h xs ys
      → SamePaths (written b ys) (written b (filter is_timed xs ++ filter is_untimed ys))
  timed-first [] ys b k ps e =
      subst (λ (zs : List Request). SamePaths (written b ys) (written b zs)) (sym (none-timed ys (λ n. sym (e n)))) (same_refl (written b ys))
  timed-first (x ∷ xs) ys b k ps e = go (split (is_timed x)) (timed-first xs)
    where
      go : T (is_timed x) ⊎ T (is_untimed x)
          → ((zs : List Request) (c : Book) → Batch h c → Each Plain zs → ReadingsKept h xs zs
          → SamePaths (written c zs) (written c (filter is_timed xs ++ filter is_untimed zs)))
          → SamePaths (written b ys) (written b (filter is_timed (x ∷ xs) ++ filter is_untimed ys))
      go (inr t) rest =
          rw (keep_failed is_timed x xs t)
          (rest ys b k ps (λ n. sym (keep_failed (carries h n) x xs (untimed_carries x t n)) ∙ e n))
      go (inl t) rest =
          let (n, c) = timed-carries x t in
          found n c (first-kept (carries h n) ys x (filter (carries h n) xs) (sym (e n) ∙ keep_passed (carries h n) x xs c))
        where
          found : (n : ℕ) → T (carries h n x) → FirstKept (carries h n) ys x (filter (carries h n) xs)
              → SamePaths (written b ys) (written b (filter is_timed (x ∷ xs) ++ filter is_untimed ys))
          found n c (ls, rs, cut, before, behind) =
              let plain : Each Plain (ls ++ (x ∷ rs)) = subst (λ (zs : List Request). Each Plain zs) cut ps in
              let kept : ReadingsKept h (x ∷ xs) (ls ++ (x ∷ rs)) = subst (λ (zs : List Request). ReadingsKept h (x ∷ xs) zs) cut e in
              subst (λ (zs : List Request). SamePaths (written b zs) (written b (filter is_timed (x ∷ xs) ++ filter is_untimed zs))) (sym cut)
              (timed_next x xs ls rs n c before behind b k plain
              (rest (ls ++ rs) (entered_request b x) (batch_next b k x (plain x (in_r x ls (x ∷ rs) (inl refl))))
              (each-others Plain ls x rs plain) (others-kept x xs ls rs n c before behind kept)))

  -- ---- receipts without readings, in any order

  module _ (b : Book) where
    -- the book after a request, if that has no readings
    abbrev passing : Request → Book
    passing q = cond (is_untimed q) (entered_request b q) b

    written_passing : (q : Request) (qs : List Request) → written b (filter is_untimed (q ∷ qs)) ≡ written (passing q) (filter is_untimed qs)
    unfolding written
    written_passing q qs = go (is_untimed q)
      where
        go : (t : Bool)
            → written b (cond t (q ∷ filter is_untimed qs) (filter is_untimed qs)) ≡ written (cond t (entered_request b q) b) (filter is_untimed qs)
        go true = refl
        go false = refl

    batch_passing : Batch h b → (q : Request) → Plain q → Batch h (passing q)
    batch_passing k q p = cond_ind (λ (c : Book). Batch h c) (is_untimed q) (entered_request b q) b (λ _. batch_next b k q p) (λ _. k)

  passing_swap : (b : Book) → Batch h b → (x y : Request) → Plain x → Plain y → SamePaths (passing (passing b x) y) (passing (passing b y) x)
  passing_swap b k x y p q = go (is_untimed x) (is_untimed y) (λ t. swap_same b k x y p q (λ n s u. T_not (carries h n x) (untimed_carries x t n) s))
    where
      go : (s t : Bool) → (T s → SamePaths (entered_request (entered_request b x) y) (entered_request (entered_request b y) x))
          → SamePaths (cond t (entered_request (cond s (entered_request b x) b) y) (cond s (entered_request b x) b))
          (cond s (entered_request (cond t (entered_request b y) b) x) (cond t (entered_request b y) b))
      go true true f = f tt
      go true false f = same_refl (entered_request b x)
      go false true f = same_refl (entered_request b y)
      go false false f = same_refl b

  untimed_same : {xs ys : List Request} → Permᴰ xs ys → (b : Book) → Batch h b → Each Plain xs
      → SamePaths (written b (filter is_untimed xs)) (written b (filter is_untimed ys))
  untimed_same Permᴰ.nil b k ps = same_refl (written b [])
  untimed_same (Permᴰ.cons {a = x} {b = y} {l₁ = xs} {l₂ = ys} e d) b k ps =
      rw (written_passing b x xs, written_passing b y ys, ← e)
      (untimed_same d (passing b x) (batch_passing b k x (ps x (inl refl))) (λ q m. ps q (inr m)))
  untimed_same (Permᴰ.swap {a = x} {b = y} {a' = u} {b' = v} {l = l} e₁ e₂) b k ps =
      rw (
        written_passing b x (y ∷ l),
        written_passing (passing b x) y l,
        written_passing b u (v ∷ l),
        written_passing (passing b u) v l,
        ← e₁,
        ← e₂,
      )
      (same-all (filter is_untimed l) (passing (passing b x) y) (passing (passing b y) x)
      (passing_swap b k x y (ps x (inl refl)) (ps y (inr (inl refl)))))
  untimed_same (Permᴰ.trans {l₁ = xs} {l₂ = zs} {l₃ = ys} d₁ d₂) b k ps =
      same_trans (written b (filter is_untimed xs)) (written b (filter is_untimed zs)) (written b (filter is_untimed ys)) (untimed_same d₁ b k ps)
      (untimed_same d₂ b k (each_perm Plain d₁ ps))

  -- ---- any two orders

  order_same : (xs ys : List Request) (b : Book) → Batch h b → Reordered xs ys → Each Plain xs → ReadingsKept h xs ys
      → SamePaths (written b xs) (written b ys)
  order_same xs ys b k d ps e =
      let ts = filter is_timed xs in
      let sorted_x = written b (ts ++ filter is_untimed xs) in
      let sorted_y = written b (ts ++ filter is_untimed ys) in
      let first : SamePaths (written b xs) sorted_x = timed-first xs xs b k ps (λ n. refl) in
      let last : SamePaths (written b ys) sorted_y = timed-first xs ys b k (each_perm Plain d ps) e in
      let between : SamePaths sorted_x sorted_y =
      rw (written-append ts (filter is_untimed xs) b, written-append ts (filter is_untimed ys) b)
      (untimed_same d (written b ts) (batch-written ts b k (λ q m. ps q (keep_out is_timed xs q m).0)) ps) in
      same_trans (written b xs) sorted_x (written b ys) first (same_trans sorted_x sorted_y (written b ys) between (last.1, last.0))

-- ---- the same answers, set by set

-- states that agree with two books, of which one lets through no more than the other
module _ (s u : List ℕ) (b c : Book) (ss : Sound s b) (su : Sound u c) (l : Less b c) where
  less_allowed : (limit f : ℕ) → Allowed limit (head_of s).own f → Allowed limit (head_of u).own f
  less_allowed limit f a = subst (λ (h : Head). Allowed limit h.own f) (sym ss.head ∙ l.head ∙ su.head) a

  less_fine : (f : ℕ) (x : ℤ) → Fine f (store_of s) x → Fine f (store_of u) x
  less_fine f x p = (su.each f).back x (less_sees b c l f x ((ss.each f).forth x p))

  less_counts : (limit : ℕ) (x : ℤ) → Counts limit (state_of s) x → Counts limit (state_of u) x
  unfolding state_of
  less_counts limit x (f, a, p) = (f, less_allowed limit f a, less_fine f x p)

  less_works : (f : ℕ) → Works (state_of s) f → Works (state_of u) f
  unfolding state_of
  less_works f (a, (x, p)) = (less_allowed 4 f a, (x, less_fine f x p))

module _ (s u : List ℕ) (b c : Book) (ss : Sound s b) (su : Sound u c) (e : SamePaths b c) where
  same_answer_lem : (limit : ℕ) → answer limit (state_of s) ≡ answer limit (state_of u)
  unfolding answer
  same_answer_lem limit =
      ap rounded
      (gives_one (Counts limit (state_of u)) (exact limit (state_of s)) (exact limit (state_of u))
      (gives_same (Counts limit (state_of s)) (Counts limit (state_of u)) (exact limit (state_of s)) (less_counts s u b c ss su e.0 limit)
      (less_counts u s c b su ss e.1 limit) (answer-given limit (state_of s)))
      (answer-given limit (state_of u)))

  same-fewest : fewest (state_of s) ≡ fewest (state_of u)
  same-fewest =
      fewest_only (Works (state_of u)) (fewest (state_of s)) (fewest (state_of u))
      (fewest-same (λ f. (less_works s u b c ss su e.0 f, less_works u s c b su ss e.1 f)) (fewest (state_of s)) (fewest_is (state_of s)))
      (fewest_is (state_of u))

  same-answers : SameAnswers s u
  unfolding ask_output asked_bytes fewest_output fewest_bytes after
  same-answers =
      record {
        answers = λ limit le out room.
            let first = ask-taken s ss.long ss.form out limit le room in
            let second = ask-taken u su.long su.form out limit le room in
            (first, second, rw (first, second, same_answer_lem limit));
        failures = λ out room.
            let first = fewest-taken s ss.long ss.form out room in
            let second = fewest-taken u su.long su.form out room in
            (first, second, rw (first, second, same-fewest));
      }

-- ---- after a run

-- receipts only, and no epoch above the known one
plain-each : (h : Head) (qs : List Request) → NoAgeing qs → NoEpochChange h qs → Each (Plain h) qs
plain-each h [] a e q m = absurd m
plain-each h (ageing reading ∷ qs) a e q m = absurd a
plain-each h (receipt g ∷ qs) a e q (inl p) = subst (Plain h) (sym p) e.0
plain-each h (receipt g ∷ qs) a e q (inr m) = plain-each h qs a e.1 q m

-- none of them refused, all are in the list of the taken ones
taken-all : (qs : List Request) (s : List ℕ) → NoneRefused s qs → taken_of (steps s qs) ≡ qs
unfolding taken_of steps
taken-all [] s n = refl
taken-all (q ∷ qs) s n = rw n.0 (ap (λ (rest : List Request). q ∷ rest) (taken-all qs (bytes_after s q) n.1))

module _ (r : Run) where
  -- the book after a run and more that are taken
  more_sound : (qs : List Request) → NoneRefused (state_after r) qs → Sound (bytes_run (state_after r) qs) (written (book r) qs)
  more_sound qs n =
      subst (Sound (bytes_run (state_after r) qs))
      (book-written (steps (state_after r) qs) (book r) ∙ ap (written (book r)) (taken-all qs (state_after r) n))
      (run_sound qs (state_after r) (book r) (reached r))

  module _ (xs ys : List Request) (batch : OneBatch (book r).head xs ys) where
    books_same : SamePaths (written (book r) xs) (written (book r) ys)
    books_same =
        let h = (book r).head in
        order_same h xs ys (book r) (h.clocks, refl) batch.order (plain-each h xs batch.still batch.quiet) batch.kept

    books_same-later : (more : List Request) → SamePaths (written (book r) (xs ++ more)) (written (book r) (ys ++ more))
    books_same-later more =
        rw (written-append xs more (book r), written-append ys more (book r)) (same-all more (written (book r) xs) (written (book r) ys) books_same)

pub any_order : AnyOrder
unfolding AnyOrder
any_order r xs ys batch taken_x taken_y =
    same-answers _ _ (written (book r) xs) (written (book r) ys) (more_sound r xs taken_x) (more_sound r ys taken_y) (books_same r xs ys batch)

pub any_order_later : AnyOrderLater
unfolding AnyOrderLater
any_order_later r xs ys more batch taken_x taken_y =
    same-answers _ _ (written (book r) (xs ++ more)) (written (book r) (ys ++ more))
    (more_sound r (xs ++ more) taken_x) (more_sound r (ys ++ more) taken_y)
    (books_same-later r xs ys batch more)
