-- The cases of document 01 ("Cases (P: to be proved)"), the answers of its listing and cases of document 02, as one table: what a row is,
-- when it holds of the exported calls' numbers and bytes, and the rows. Assumes nothing: these are definitions.
use Rattle.std.specs.Prelude.{ℕ, ◌+◌, ◌*◌, ◌-◌, ◌^◌, ◌≤◌, ◌≡◌, List, [], ◌∷◌, ◌++◌, reverse, T, eqb, length, get_or, replicate}
use Rattle.numbers.specs.Numbers.{tab, bytes_of}
use Rattle.std.specs.List.{list_all}
use Rattle.predicates.specs.Lists.{In}
use Rattle.predicates.specs.Predicates.{formed}
use Rattle.message.specs.Write.{message_words}
use Rattle.epochs.specs.Epochs.{epochs_most, name}
use Rattle.radio.specs.Names.{wanted, names_of}
use Rattle.clocks.specs.declared.Triple.{Triple}
use Rattle.clocks.specs.Clocks.{Saved, nothing, three, with_drift}
use Rattle.clocks.specs.Worked.{triple}
use Rattle.ends.specs.Ends.{million}
use Rattle.state.specs.Model.{Datum, datum, State}
use Rattle.state.specs.Layout.{state_size, state_bytes, head_of, store_of}
use Rattle.state.specs.Form.{state_ok}
use Rattle.engine.specs.Ageing.{slow, fast}
use Rattle.engine.specs.Calls.{Setup, setup, set_up, clock_of}
use Rattle.asking.specs.declared.Answer.{Answer}
use Rattle.asking.specs.declared.Answer.TheVariants.{Contradicted, Open, Between}
use Rattle.monitor.specs.Calls.{set_up_number, age_number}
use Rattle.monitor.specs.Receive.{receipt_of, receipt_with}
use Rattle.asking.specs.Asking.{answer_numbers}
use Rattle.monitor.specs.Ask.{answer_size, Shows, ask_number, ask_output}
use Rattle.runs.specs.Book.{Request, ageing, receipt, Step}
use Rattle.runs.specs.Runs.{request_number, bytes_run, steps, Run, state_after, steps_of}

-- ---- a row

-- a question about a state, with what must come
pub data Question : Type 0 where
  -- asking at the limit gives the answer
  asking : ℕ → Answer → Question
  -- asking at the limit is refused with the number
  refusing : ℕ → ℕ → Question
  -- these data are held, oldest first
  holding : List Datum → Question
  -- these entries are the failure knowledge, oldest first
  knowing : List (List ℕ) → Question
  -- from the sender and the message's terms the predicate is formed
  forming : ℕ → List ℕ → List ℕ → Question
  -- of the name's clock this is saved
  remembering : ℕ → Saved → Question
  -- of the identifier this epoch is known
  dating : ℕ → ℕ → Question
  -- an ageing to the reading has this least and this greatest advance
  advancing : ℕ → ℕ → ℕ → Question
  -- a request returns the number
  returning : Request → ℕ → Question
  -- a setting up returns the number
  setting_up : Setup → ℕ → Question

-- it is put after a setting up and requests
pub record Case : Type 0 where
  pub setup : Setup
  pub requests : List Request
  pub question : Question

-- ---- when a row holds

-- what must come comes, on the state bytes s: for asking by the number that it returns and the 24 bytes of its output
abbrev pub Comes : List ℕ → Question → Type 0
Comes s (asking limit a) = (out : List ℕ) → answer_size ≤ length out → (ask_number s limit out ≡ 0) × Shows (ask_output s limit out) (answer_numbers a)
Comes s (refusing limit number) = (out : List ℕ) → ask_number s limit out ≡ number
Comes s (holding ds) = (store_of s).held ≡ ds
Comes s (knowing es) = (store_of s).entries ≡ es
Comes s (remembering name v) = clock_of (head_of s) name ≡ v
Comes s (dating identifier epoch) = get_or (head_of s).epochs identifier 0 ≡ epoch
Comes s (forming sender terms p) = formed (head_of s).own sender terms ≡ p
Comes s (advancing reading lo hi) = (age_number s reading ≡ 0) × (slow (head_of s) reading ≡ lo) × (fast (head_of s) reading ≡ hi)
Comes s (returning q number) = request_number s q ≡ number
Comes s (setting_up u number) = set_up_number s u ≡ number

-- the row as a run in a buffer
abbrev pub run_of : (c : Case) (buffer : List ℕ) → set_up_number buffer c.setup ≡ 0 → Run
run_of c buffer begins = record { buffer = buffer; setup = c.setup; taken = begins; requests = c.requests }

-- the setting up and every request are taken, since a row about a state that nobody reaches would say nothing; and then what must come comes
pub record CaseComes (c : Case) (buffer : List ℕ) : Type 0 where
  pub begins : set_up_number buffer c.setup ≡ 0
  pub taken : T (list_all (λ (p : Step). eqb p.number 0) (steps_of (run_of c buffer begins)))
  pub comes : Comes (state_after (run_of c buffer begins)) c.question

-- ---- the table

abbrev pub given : Setup → List Request → Question → Case
given u qs q = record { setup = u; requests = qs; question = q }

-- a monitor with this own name, drift 100, reading 0 and epoch 0, as the listing's `set 5 100 0 0`
abbrev pub usual : ℕ → Setup
usual own = record { own = own; drift = 100; reading = 0; epoch = 0 }

-- the same without drift, and with the greatest
abbrev pub steady : ℕ → Setup
steady own = record { own = own; drift = 0; reading = 0; epoch = 0 }

abbrev pub hasty : ℕ → Setup
hasty own = record { own = own; drift = 1_000; reading = 0; epoch = 0 }

-- a mended one, under epoch 2
abbrev pub renewed : ℕ → Setup
renewed own = record { own = own; drift = 100; reading = 0; epoch = 2 }

-- a receipt of a message of these words, "four bytes make a word", as the listing's `get`
abbrev pub get : ℕ → ℕ → List ℕ → Request
get least greatest words = receipt (receipt_of least greatest (bytes_of words))

-- the words of a sender's message of an interval and terms, all under epoch 0
abbrev pub said : ℕ → ℕ → ℕ → List ℕ → List ℕ
said sender left right terms = message_words sender (names_of (replicate epochs_most 0) (wanted sender terms)) left right terms

-- a receipt of sender 1's message of an interval, over a channel with these delays
abbrev pub delayed : ℕ → ℕ → ℕ → ℕ → Request
delayed least greatest left right = get least greatest (said 1 left right [])

-- a receipt of a sender's message of an interval and terms, over a channel without delay
abbrev pub hear : ℕ → ℕ → ℕ → List ℕ → Request
hear sender left right terms = get 0 0 (said sender left right terms)

-- the same under other names, given as epoch words
abbrev pub hear_named : List ℕ → ℕ → ℕ → ℕ → List ℕ → Request
hear_named names sender left right terms = get 0 0 (message_words sender names left right terms)

-- sender 1 mended, under epoch 1
abbrev pub mended : ℕ → ℕ → Request
mended left right = hear_named (name 1 1 ∷ []) 1 left right []

-- the same with the sender's clock reading, the own one, a half width and the sender's drift
abbrev pub tick : ℕ → ℕ → ℕ → List ℕ → Triple → ℕ → Request
tick sender left right terms t drift = receipt (receipt_with 0 0 (with_drift t drift) (bytes_of (said sender left right terms)))

-- and under another name
abbrev pub tick_named : List ℕ → ℕ → ℕ → ℕ → List ℕ → Triple → ℕ → Request
tick_named names sender left right terms t drift =
    receipt (receipt_with 0 0 (with_drift t drift) (bytes_of (message_words sender names left right terms)))

-- [0,10] from sender 1 with these readings and no drift
abbrev pub one : ℕ → ℕ → ℕ → Request
one a b w = tick 1 0 10 [] (triple a b w) 0

-- the same with a drift of 100
abbrev pub drifting : ℕ → ℕ → ℕ → Request
drifting a b w = tick 1 0 10 [] (triple a b w) 100

-- a datum whose ends are whole microseconds
abbrev pub whole : ℕ → ℕ → List ℕ → Datum
whole left right terms = datum (left * million) (right * million) terms

-- the requests of the listing, up to its first message, its ageing and its second message
abbrev pub listing_first : List Request
listing_first = get 0 50 (536870913 ∷ 1 ∷ 1073741824 ∷ 1074741824 ∷ 1610612736 ∷ 1611612936 ∷ 3760096586 ∷ []) ∷ []

abbrev pub listing_aged : List Request
listing_aged = listing_first ++ (ageing 2_000_000 ∷ [])

abbrev pub listing_second : List Request
listing_second = listing_aged ++ (get 0 0 (536870914 ∷ 2 ∷ 1073741824 ∷ 1076742824 ∷ 1610612736 ∷ 1613613736 ∷ 3764098388 ∷ []) ∷ [])

-- the terms {6} to {13}
abbrev pub eight_terms : List ℕ
eight_terms = 2 ^ 6 ∷ 2 ^ 7 ∷ 2 ^ 8 ∷ 2 ^ 9 ∷ 2 ^ 10 ∷ 2 ^ 11 ∷ 2 ^ 12 ∷ 2 ^ 13 ∷ []

-- document 02, W-206. Receipts after sender 1 was mended: one of sender 2 comes twice, and again with readings; those of the older name of 1 are not
-- heeded. And the same the other way round
abbrev pub one_order : List Request
one_order =
    hear 2 0 20 [] ∷ hear 2 0 20 [] ∷ tick 2 3 20 [] (triple 0 0 0) 0 ∷ one 0 0 0 ∷ one 10 10 0 ∷ tick 3 0 9 [] (triple 5 5 0) 0 ∷ []

abbrev pub other_order : List Request
other_order = reverse one_order

-- what is held after either
abbrev pub held_one : List Datum
held_one = whole 0 10 (2 ^ 1 ∷ []) ∷ whole 3 20 (2 ^ 2 ∷ []) ∷ whole 0 9 (2 ^ 3 ∷ []) ∷ []

abbrev pub held_other : List Datum
held_other = whole 0 10 (2 ^ 1 ∷ []) ∷ whole 0 9 (2 ^ 3 ∷ []) ∷ whole 3 20 (2 ^ 2 ∷ []) ∷ []

-- the first n senders, each without terms, all overlapping
abbrev pub overlapping : ℕ → List Request
overlapping n = tab n (λ sender. hear sender 0 10 [])

-- senders 1 to 8, each apart from all others
abbrev pub eight_apart : List Request
eight_apart = tab 8 (λ i. hear (i + 1) (i * 10) (i * 10 + 1) [])

-- three gateways give readings of clocks that agree; then the host counts all readings from a beginning that is 1,000 later
abbrev pub started : List Request
started = tick 1 0 10 [] (triple 2_000 2_000 1) 0 ∷ tick 2 0 10 [] (triple 2_000 2_000 1) 0 ∷ tick 3 0 10 [] (triple 2_000 2_000 1) 0 ∷ []

abbrev pub begun_anew : List Request
begun_anew = tick 1 0 10 [] (triple 1_010 1_010 1) 0 ∷ tick 2 0 10 [] (triple 1_010 1_010 1) 0 ∷ tick 3 0 10 [] (triple 1_010 1_010 1) 0 ∷ []

unfoldable pub order_cases : List Case
order_cases =
    given (steady 5) (mended 0 10 ∷ one_order) (holding held_one)
    ∷ given (steady 5) (mended 0 10 ∷ other_order) (holding held_other)
    ∷ given (steady 5) (mended 0 10 ∷ one_order) (asking 0 (Between 3 9))
    ∷ given (steady 5) (mended 0 10 ∷ other_order) (asking 0 (Between 3 9))
    -- the readings of one sender have to keep their order: these are quiet, and in the other order the later one violates the test
    ∷ given (steady 5) (one 0 0 0 ∷ one 10 10 0 ∷ []) (asking 0 (Between 0 10))
    ∷ given (steady 5) (one 10 10 0 ∷ one 0 0 0 ∷ []) (asking 0 Contradicted)
    ∷ []

-- document 02, W-201: what test (20) is made of
unfoldable pub clock_cases : List Case
clock_cases =
    -- own drift 100 and the sender's 300: at the bound, and one past it
    given (usual 5) (tick 1 0 10 [] (triple 0 0 0) 300 ∷ tick 1 0 10 [] (triple 2500 2501 0) 300 ∷ []) (knowing [])
    ∷ given (usual 5) (tick 1 0 10 [] (triple 0 0 0) 300 ∷ tick 1 0 10 [] (triple 2499 2500 0) 300 ∷ []) (knowing ((2 ^ 1 ∷ []) ∷ []))
    -- half widths of 1 and 3: at the bound, and one past it
    ∷ given (steady 5) (one 0 0 1 ∷ one 100 104 3 ∷ []) (knowing [])
    ∷ given (steady 5) (one 0 0 1 ∷ one 100 105 3 ∷ []) (knowing ((2 ^ 1 ∷ []) ∷ []))
    -- the half width decides which is the largest
    ∷ given (steady 5) (one 0 0 5 ∷ one 13 10 0 ∷ []) (remembering 1 (three (triple 13 10 0) (triple 0 0 5) (triple 0 0 5)))
    ∷ given (steady 5) (one 0 0 5 ∷ one 10 13 0 ∷ []) (remembering 1 (three (triple 10 13 0) (triple 0 0 5) (triple 0 0 5)))
    ∷ given (steady 5) (one 3 0 0 ∷ one 10 10 4 ∷ []) (remembering 1 (three (triple 10 10 4) (triple 10 10 4) (triple 10 10 4)))
    -- one of the three shows the violation alone: the previous one, that of the largest a − b + w, that of the largest b − a + w
    ∷ given (steady 5) (one 0 0 10 ∷ one 10 10 0 ∷ []) (knowing [])
    ∷ given (steady 5) (one 0 0 10 ∷ one 10 10 0 ∷ one 25 20 1 ∷ []) (knowing ((2 ^ 1 ∷ []) ∷ []))
    ∷ given (steady 5) (one 4 0 0 ∷ one 10 9 3 ∷ []) (knowing [])
    ∷ given (steady 5) (one 4 0 0 ∷ one 10 9 3 ∷ one 20 21 0 ∷ []) (knowing ((2 ^ 1 ∷ []) ∷ []))
    ∷ given (steady 5) (one 0 10 0 ∷ one 20 20 10 ∷ []) (knowing [])
    ∷ given (steady 5) (one 0 10 0 ∷ one 20 20 10 ∷ one 45 40 1 ∷ []) (knowing ((2 ^ 1 ∷ []) ∷ []))
    -- three gateways whose readings are counted from a later beginning, all at once: each clock seems to have jumped
    ∷ given (steady 5) (started ++ begun_anew) (knowing ((2 ^ 1 ∷ []) ∷ (2 ^ 2 ∷ []) ∷ (2 ^ 3 ∷ []) ∷ []))
    ∷ given (steady 5) (started ++ begun_anew) (asking 0 Contradicted)
    ∷ given (steady 5) (started ++ begun_anew) (asking 1 Contradicted)
    -- a sender's clock that starts again at 0 is blamed, unless it comes back under a new epoch
    ∷ given (steady 5) (one 1_000 1_000 0 ∷ one 0 1_010 0 ∷ []) (asking 0 Contradicted)
    ∷ given (steady 5) (one 1_000 1_000 0 ∷ tick_named (name 1 1 ∷ []) 1 0 10 [] (triple 0 1_010 0) 0 ∷ []) (asking 0 (Between 0 10))
    ∷ []

-- a limit of each kind, on both sides
unfoldable pub limit_cases : List Case
limit_cases =
    -- "1 own name above 28"; "41 own epoch above 15"; "2 drift above 1,000"; "3 reading 2^58 or more (also in ageing)"
    given (usual 5) [] (setting_up (setup 28 0 0 0) 0)
    ∷ given (usual 5) [] (setting_up (setup 29 0 0 0) 1)
    ∷ given (usual 5) [] (setting_up (setup 5 0 0 15) 0)
    ∷ given (usual 5) [] (setting_up (setup 5 0 0 16) 41)
    ∷ given (usual 5) [] (setting_up (setup 5 1_000 0 0) 0)
    ∷ given (usual 5) [] (setting_up (setup 5 1_001 0 0) 2)
    ∷ given (usual 5) [] (setting_up (setup 5 0 (2 ^ 58 - 1) 0) 0)
    ∷ given (usual 5) [] (setting_up (setup 5 0 (2 ^ 58) 0) 3)
    ∷ given (usual 5) [] (returning (ageing (2 ^ 58 - 1)) 0)
    ∷ given (usual 5) [] (returning (ageing (2 ^ 58)) 3)
    -- "sender above 28"
    ∷ given (usual 5) [] (returning (hear 28 0 10 []) 0)
    ∷ given (usual 5) [] (returning (hear 29 0 10 []) 12)
    -- "40 a, b or w at 2^43 or more, or a drift above 1,000"
    ∷ given (usual 5) [] (returning (tick 1 0 10 [] (triple (2 ^ 43 - 1) (2 ^ 43 - 1) (2 ^ 43 - 1)) 1_000) 0)
    ∷ given (usual 5) [] (returning (tick 1 0 10 [] (triple 0 0 0) 1_001) 40)
    ∷ given (usual 5) [] (returning (tick 1 0 10 [] (triple (2 ^ 43) 0 0) 0) 40)
    ∷ given (usual 5) [] (returning (tick 1 0 10 [] (triple 0 (2 ^ 43) 0) 0) 40)
    ∷ given (usual 5) [] (returning (tick 1 0 10 [] (triple 0 0 (2 ^ 43)) 0) 40)
    -- "At most 16 data": the 16th from a sender that no held datum names is taken, the 17th is 32
    ∷ given (usual 28) (overlapping 15) (returning (hear 15 0 10 []) 0)
    ∷ given (usual 28) (overlapping 16) (returning (hear 16 0 10 []) 32)
    -- "and 32 entries": eight data apart make 28; a ninth that is apart from four of them makes 32, one that is apart from five 33
    ∷ given (usual 28) eight_apart (returning (hear 9 40 80 []) 0)
    ∷ given (usual 28) eight_apart (returning (hear 9 50 80 []) 32)
    -- "a datum has 1 to 8 terms": with the sender eight, and nine; nine in the message
    ∷ given (usual 5) [] (returning (hear 6 0 10 eight_terms) 0)
    ∷ given (usual 5) [] (returning (hear 2 0 10 eight_terms) 31)
    ∷ given (usual 5) [] (returning (hear 6 0 10 (eight_terms ++ (2 ^ 14 ∷ []))) 12)
    -- "30 an end would pass 2^58 − 1"
    ∷ given (steady 5) [] (returning (delayed 0 1 0 (2 ^ 58 - 2)) 0)
    ∷ given (steady 5) [] (returning (delayed 0 1 0 (2 ^ 58 - 1)) 30)
    ∷ []

-- "name n being the bit of value 2^n": the predicate 1+3 is `2 ^ 1 ∷ 2 ^ 3 ∷ []`. "Under 1" is sender 1 without terms, "under 1+3" with the term {3}
unfoldable pub cases : List Case
cases =
    -- those of W-206, which the example in `specs.Example` needs by themselves, and then all others
    order_cases
    ++ clock_cases
    ++ limit_cases
    -- "no data: open for limits 0 and 4. Limit 5: 22."
    ++ given (usual 5) [] (asking 0 Open)
    ∷ given (usual 5) [] (asking 4 Open)
    ∷ given (usual 5) [] (refusing 5 22)
    -- "[0,10] under 1 and [20,30] under 2, limit 1: 0 to 30."
    ∷ given (usual 5) (hear 1 0 10 [] ∷ hear 2 20 30 [] ∷ []) (asking 1 (Between 0 30))
    -- "[0,10] under 1+3 and [20,30] under 2+3, limit 1: open."
    ∷ given (usual 5) (hear 1 0 10 (2 ^ 3 ∷ []) ∷ hear 2 20 30 (2 ^ 3 ∷ []) ∷ []) (asking 1 Open)
    -- "sender 1, terms {1,2} and {3}: predicate 1+3; at own name 3: 1."
    ∷ given (usual 5) [] (forming 1 ((2 ^ 1 + 2 ^ 2) ∷ 2 ^ 3 ∷ []) (2 ^ 1 ∷ 2 ^ 3 ∷ []))
    ∷ given (usual 3) [] (forming 1 ((2 ^ 1 + 2 ^ 2) ∷ 2 ^ 3 ∷ []) (2 ^ 1 ∷ []))
    -- the same by a receipt
    ∷ given (usual 5) (hear 1 0 10 ((2 ^ 1 + 2 ^ 2) ∷ 2 ^ 3 ∷ []) ∷ []) (holding (whole 0 10 (2 ^ 1 ∷ 2 ^ 3 ∷ []) ∷ []))
    ∷ given (usual 3) (hear 1 0 10 ((2 ^ 1 + 2 ^ 2) ∷ 2 ^ 3 ∷ []) ∷ []) (holding (whole 0 10 (2 ^ 1 ∷ []) ∷ []))
    -- "[0,10] and [5,20], both under 1: one datum, [5,10]."
    ∷ given (usual 5) (hear 1 0 10 [] ∷ hear 1 5 20 [] ∷ []) (holding (whole 5 10 (2 ^ 1 ∷ []) ∷ []))
    -- "[0,10] then [11,20], both under 1: no datum, entry 1; limit 0 contradicted, and so after ageing."
    ∷ given (usual 5) (hear 1 0 10 [] ∷ hear 1 11 20 [] ∷ []) (holding [])
    ∷ given (usual 5) (hear 1 0 10 [] ∷ hear 1 11 20 [] ∷ []) (knowing ((2 ^ 1 ∷ []) ∷ []))
    ∷ given (usual 5) (hear 1 0 10 [] ∷ hear 1 11 20 [] ∷ []) (asking 0 Contradicted)
    -- the two intervals would by then overlap: each has grown by 200
    ∷ given (usual 5) (hear 1 0 10 [] ∷ hear 1 11 20 [] ∷ ageing 1_000_000 ∷ []) (asking 0 Contradicted)
    -- "[0,10] and [10,20] under 1 and 2: no entry; limit 0 gives 10 to 10."
    ∷ given (usual 5) (hear 1 0 10 [] ∷ hear 2 10 20 [] ∷ []) (knowing [])
    ∷ given (usual 5) (hear 1 0 10 [] ∷ hear 2 10 20 [] ∷ []) (asking 0 (Between 10 10))
    -- "the case d = 1, r = 100 now gives 0.9999 and 1.0001" (document 02, W-205). "d = 0: 0 and 0." Set up with reading 0, d is the new reading
    ∷ given (usual 5) [] (advancing 1 999_900 1_000_100)
    ∷ given (usual 5) [] (advancing 0 0 0)
    -- the same by an ageing; only the answer rounds
    ∷ given (usual 5) (hear 1 0 10 [] ∷ ageing 1 ∷ []) (holding (datum 999_900 11_000_100 (2 ^ 1 ∷ []) ∷ []))
    ∷ given (usual 5) (hear 1 0 10 [] ∷ ageing 1 ∷ []) (asking 0 (Between 0 12))
    ∷ given (usual 5) (hear 1 0 10 [] ∷ ageing 0 ∷ []) (holding (whole 0 10 (2 ^ 1 ∷ []) ∷ []))
    -- the listing (its `fewest` is not here: `ones` takes as many steps as the mask is large). Document 02, W-202: "with delays 0 and 50 its
    -- first two answers end at 1000251 and 3000451"
    ∷ given (usual 5) listing_first (asking 0 (Between 1_000_000 1_000_251))
    ∷ given (usual 5) listing_aged (asking 0 (Between 2_999_800 3_000_451))
    -- "contradicted", "between 2999800 3001000", "open"
    ∷ given (usual 5) listing_second (asking 0 Contradicted)
    ∷ given (usual 5) listing_second (asking 1 (Between 2_999_800 3_001_000))
    ∷ given (usual 5) listing_second (asking 2 Open)
    -- document 02, W-201. A test exactly at the bound, 2 > 2: no violation
    ∷ given (steady 5) (one 0 0 1 ∷ one 100 102 1 ∷ []) (asking 0 (Between 0 10))
    ∷ given (steady 5) (one 0 0 1 ∷ one 100 102 1 ∷ []) (remembering 1 (three (triple 100 102 1) (triple 0 0 1) (triple 100 102 1)))
    -- and one past it: no data, the entry 1
    ∷ given (steady 5) (one 0 0 1 ∷ one 100 103 1 ∷ []) (holding [])
    ∷ given (steady 5) (one 0 0 1 ∷ one 100 103 1 ∷ []) (knowing ((2 ^ 1 ∷ []) ∷ []))
    ∷ given (steady 5) (one 0 0 1 ∷ one 100 103 1 ∷ []) (asking 0 Contradicted)
    ∷ given (steady 5) (one 0 0 1 ∷ one 100 103 1 ∷ []) (asking 1 Open)
    -- own and sender's drift 100: at the bound, and one past it
    ∷ given (usual 5) (drifting 0 0 0 ∷ drifting 5000 5001 0 ∷ []) (knowing [])
    ∷ given (usual 5) (drifting 0 0 0 ∷ drifting 4999 5000 0 ∷ []) (knowing ((2 ^ 1 ∷ []) ∷ []))
    -- both clocks back: the own one counts by its distance
    ∷ given (steady 5) (one 10 10 0 ∷ one 0 0 0 ∷ []) (knowing ((2 ^ 1 ∷ []) ∷ []))
    -- a tie: the earlier triples stay
    ∷ given (steady 5) (one 0 0 0 ∷ one 5 5 0 ∷ one 7 7 0 ∷ []) (remembering 1 (three (triple 7 7 0) (triple 0 0 0) (triple 0 0 0)))
    -- a violating triple is saved; the next is quiet against it but not against the first, and the entry stands once
    ∷ given (steady 5) (one 0 0 0 ∷ one 0 9 0 ∷ one 1 10 0 ∷ []) (knowing ((2 ^ 1 ∷ []) ∷ []))
    -- a true predicate with a violation: the datum under 1 goes, that under 2 stays
    ∷ given (steady 5) (one 0 0 1 ∷ hear 2 0 20 [] ∷ tick 1 0 10 (0 ∷ []) (triple 100 103 1) 0 ∷ []) (holding (whole 0 20 (2 ^ 2 ∷ []) ∷ []))
    ∷ given (steady 5) (one 0 0 1 ∷ hear 2 0 20 [] ∷ tick 1 0 10 (0 ∷ []) (triple 100 103 1) 0 ∷ []) (asking 1 (Between 0 20))
    -- one without a violation is saved and changes nothing else
    ∷ given (steady 5) (tick 1 0 10 (0 ∷ []) (triple 3 4 5) 0 ∷ []) (remembering 1 (three (triple 3 4 5) (triple 3 4 5) (triple 3 4 5)))
    ∷ given (steady 5) (tick 1 0 10 (0 ∷ []) (triple 3 4 5) 0 ∷ []) (asking 0 Open)
    -- the entry 1 drives out 1+2
    ∷ given (steady 5) (hear 2 20 30 [] ∷ one 0 0 0 ∷ []) (knowing ((2 ^ 1 ∷ 2 ^ 2 ∷ []) ∷ []))
    ∷ given (steady 5) (hear 2 20 30 [] ∷ one 0 0 0 ∷ one 0 9 0 ∷ []) (knowing ((2 ^ 1 ∷ []) ∷ []))
    ∷ given (steady 5) (hear 2 20 30 [] ∷ one 0 0 0 ∷ one 0 9 0 ∷ []) (holding (whole 20 30 (2 ^ 2 ∷ []) ∷ []))
    -- document 02, W-202. Delays by the ageing rule: as an ageing by 1, by 5, and at the greatest drift and delay
    ∷ given (usual 5) (delayed 1 1 0 0 ∷ []) (holding (datum 999_900 1_000_100 (2 ^ 1 ∷ []) ∷ []))
    ∷ given (usual 5) (delayed 5 5 10 10 ∷ []) (holding (datum 14_999_500 15_000_500 (2 ^ 1 ∷ []) ∷ []))
    ∷ given (hasty 5) (delayed 600_000_000 600_000_000 0 0 ∷ []) (holding (whole 599_400_000 600_600_000 (2 ^ 1 ∷ []) ∷ []))
    -- without drift left plus least, right plus greatest
    ∷ given (steady 5) (delayed 3 600_000_000 10 20 ∷ []) (holding (whole 13 600_000_020 (2 ^ 1 ∷ []) ∷ []))
    -- "Delay" 600,000,000 "taken", 600,000,001 "gives 21"
    ∷ given (usual 5) [] (returning (delayed 0 600_000_000 0 0) 0)
    ∷ given (usual 5) [] (returning (delayed 0 600_000_001 0 0) 21)
    -- the end so grown is within the greatest, beyond it by its fraction alone, and without drift the greatest
    ∷ given (usual 5) (delayed 0 1 0 (2 ^ 58 - 3) ∷ []) (holding (datum 0 ((2 ^ 58 - 2) * million + 100) (2 ^ 1 ∷ []) ∷ []))
    ∷ given (usual 5) [] (returning (delayed 0 1 0 (2 ^ 58 - 2)) 30)
    ∷ given (steady 5) (delayed 0 1 0 (2 ^ 58 - 2) ∷ []) (holding (whole 0 (2 ^ 58 - 1) (2 ^ 1 ∷ []) ∷ []))
    -- document 02, W-204. A mended monitor is believed, and what its old name said or was blamed for no longer binds it, whichever comes first
    ∷ given (usual 5) (hear 1 0 10 [] ∷ hear 2 20 30 [] ∷ mended 22 40 ∷ []) (asking 0 (Between 22 30))
    ∷ given (usual 5) (hear 1 0 10 [] ∷ hear 2 20 30 [] ∷ mended 22 40 ∷ []) (knowing [])
    ∷ given (usual 5) (hear 1 0 10 [] ∷ hear 2 20 30 [] ∷ mended 22 40 ∷ []) (holding (whole 20 30 (2 ^ 2 ∷ []) ∷ whole 22 40 (2 ^ 1 ∷ []) ∷ []))
    ∷ given (usual 5) (mended 22 40 ∷ hear 1 0 10 [] ∷ hear 2 20 30 [] ∷ []) (asking 0 (Between 22 30))
    -- its epoch is heard in a term, in a term that is struck, and from an old sender
    ∷ given (usual 5) (hear 1 0 10 [] ∷ hear_named (name 1 1 ∷ name 2 0 ∷ []) 2 0 5 (2 ^ 1 ∷ []) ∷ []) (holding (whole 0 5 (2 ^ 1 ∷ 2 ^ 2 ∷ []) ∷ []))
    ∷ given (usual 5) (hear 1 0 10 [] ∷ hear_named (name 1 1 ∷ name 2 0 ∷ name 5 0 ∷ []) 2 0 5 ((2 ^ 1 + 2 ^ 5) ∷ []) ∷ []) (holding (whole 0 5 (2 ^ 2 ∷ []) ∷ []))
    ∷ given (usual 5) (mended 0 10 ∷ hear 3 0 9 [] ∷ hear_named (name 1 0 ∷ name 3 1 ∷ []) 1 0 5 (2 ^ 3 ∷ []) ∷ []) (holding (whole 0 10 (2 ^ 1 ∷ []) ∷ []))
    -- a late name in a term counts as failed; alone in it, it makes the predicate true
    ∷ given (usual 5) (mended 0 10 ∷ hear 2 0 9 ((2 ^ 1 + 2 ^ 3) ∷ []) ∷ []) (holding (whole 0 10 (2 ^ 1 ∷ []) ∷ whole 0 9 (2 ^ 2 ∷ 2 ^ 3 ∷ []) ∷ []))
    ∷ given (usual 5) (mended 0 10 ∷ hear 2 0 9 (2 ^ 1 ∷ []) ∷ []) (holding (whole 0 10 (2 ^ 1 ∷ []) ∷ []))
    -- two data of one predicate are not merged, and one that an entry implies stays
    ∷ given (usual 5) (hear 2 0 9 ((2 ^ 1 + 2 ^ 3) ∷ []) ∷ hear 2 3 20 (2 ^ 3 ∷ []) ∷ hear_named (name 1 1 ∷ []) 1 0 30 [] ∷ [])
    (holding (whole 0 9 (2 ^ 2 ∷ 2 ^ 3 ∷ []) ∷ whole 3 20 (2 ^ 2 ∷ 2 ^ 3 ∷ []) ∷ whole 0 30 (2 ^ 1 ∷ []) ∷ []))
    ∷ given (usual 5) (hear 2 0 9 ((2 ^ 1 + 2 ^ 3) ∷ []) ∷ hear 3 0 1 [] ∷ hear 3 5 6 [] ∷ hear_named (name 1 1 ∷ []) 1 0 30 (0 ∷ []) ∷ [])
    (holding (whole 0 9 (2 ^ 2 ∷ 2 ^ 3 ∷ []) ∷ []))
    -- a violation's entry goes with the name, and so do its triples; an older name's readings are not heeded
    ∷ given (steady 5) (one 0 0 1 ∷ one 100 103 1 ∷ mended 0 10 ∷ []) (knowing [])
    ∷ given (steady 5) (one 0 0 1 ∷ one 100 103 1 ∷ mended 0 10 ∷ []) (remembering 1 nothing)
    ∷ given (steady 5) (one 0 0 1 ∷ tick_named (name 1 1 ∷ []) 1 0 10 [] (triple 100 500 1) 0 ∷ [])
    (remembering 1 (three (triple 100 500 1) (triple 100 500 1) (triple 100 500 1)))
    ∷ given (steady 5) (tick_named (name 1 1 ∷ []) 1 0 10 [] (triple 0 0 1) 0 ∷ one 100 500 1 ∷ [])
    (remembering 1 (three (triple 0 0 1) (triple 0 0 1) (triple 0 0 1)))
    -- "a message never changes the own epoch", and 18 comes under any
    ∷ given (renewed 5) (hear_named (name 1 0 ∷ name 2 0 ∷ name 5 9 ∷ []) 1 0 10 ((2 ^ 2 + 2 ^ 5) ∷ []) ∷ []) (dating 5 2)
    ∷ given (renewed 5) (hear_named (name 1 0 ∷ name 2 0 ∷ name 5 9 ∷ []) 1 0 10 ((2 ^ 2 + 2 ^ 5) ∷ []) ∷ []) (holding (whole 0 10 (2 ^ 1 ∷ []) ∷ []))
    ∷ given (renewed 5) [] (returning (hear_named (name 5 9 ∷ []) 5 0 10 []) 18)
    ∷ given (usual 5) (mended 0 10 ∷ []) (dating 1 1)
    -- 31 counts after late names have left: nine terms, and with 6 old none but the empty one
    ∷ given (usual 5) [] (returning (hear 2 0 10 eight_terms) 31)
    ∷ given (usual 5) (hear_named (name 6 1 ∷ []) 6 0 5 [] ∷ []) (returning (hear 2 0 10 eight_terms) 0)
    -- document 02, W-205. A right end of 11.0001: a new left end of 11 meets it, and one of 12 does not
    ∷ given (usual 5) (hear 1 0 10 [] ∷ ageing 1 ∷ hear 2 11 20 [] ∷ []) (knowing [])
    ∷ given (usual 5) (hear 1 0 10 [] ∷ ageing 1 ∷ hear 2 11 20 [] ∷ []) (asking 0 (Between 11 12))
    ∷ given (usual 5) (hear 1 0 10 [] ∷ ageing 1 ∷ hear 2 12 20 [] ∷ []) (knowing ((2 ^ 1 ∷ 2 ^ 2 ∷ []) ∷ []))
    -- a left end of 11.9999: a new right end of 12 meets it, and one of 11 does not
    ∷ given (usual 5) (hear 1 11 20 [] ∷ ageing 1 ∷ hear 2 0 12 [] ∷ []) (knowing [])
    ∷ given (usual 5) (hear 1 11 20 [] ∷ ageing 1 ∷ hear 2 0 11 [] ∷ []) (knowing ((2 ^ 1 ∷ 2 ^ 2 ∷ []) ∷ []))
    -- "Number 30 compares the end with its fraction"
    ∷ given (usual 5) (hear 1 0 (2 ^ 58 - 1) [] ∷ []) (returning (ageing 1) 30)
    ∷ given (usual 5) (hear 1 0 (2 ^ 58 - 3) [] ∷ []) (returning (ageing 1) 0)
    ∷ given (usual 5) (hear 1 0 (2 ^ 58 - 3) [] ∷ []) (returning (ageing 2) 30)
    ∷ given (steady 5) (hear 1 0 (2 ^ 58 - 3) [] ∷ []) (returning (ageing 2) 0)
    ∷ given (steady 5) (hear 1 0 (2 ^ 58 - 3) [] ∷ []) (returning (ageing 3) 30)
    -- three ageings are one
    ∷ given (usual 5) (hear 1 0 10 [] ∷ ageing 1_000_001 ∷ ageing 2_000_002 ∷ ageing 3_000_003 ∷ [])
    (holding (datum (3_000_003 * 999_900) (10 * million + 3_000_003 * 1_000_100) (2 ^ 1 ∷ []) ∷ []))
    ∷ []

-- "The cases marked P are proved together, as one table with a common statement": each row holds of the exported calls, in every buffer that has room
unfoldable pub EachCase : Type 0
EachCase = (c : Case) → In c cases → (buffer : List ℕ) → state_size ≤ length buffer → CaseComes c buffer

-- ---- rows on a state whose bytes are lent as they stand

pub record Lent : Type 0 where
  pub state : State
  pub requests : List Request
  pub question : Question

-- the state is right, every request on its bytes is taken, and then what must come comes
pub record LentComes (c : Lent) (rest : List ℕ) : Type 0 where
  pub right : T (state_ok c.state)
  pub taken : T (list_all (λ (p : Step). eqb p.number 0) (steps (state_bytes c.state ++ rest) c.requests))
  pub comes : Comes (bytes_run (state_bytes c.state ++ rest) c.requests) c.question

-- a monitor 5 without drift that holds these data
abbrev pub lent_holding : List Datum → List Request → Question → Lent
lent_holding ds qs q = record { state = record { head = (set_up (steady 5)).head; store = record { held = ds; entries = [] } }; requests = qs; question = q }

-- document 02, W-205: ends that only their millionths tell apart
unfoldable pub fractions : List Lent
fractions =
    -- [5.2,5.4] under 1 and [5.5,5.6] under 2 lie within one microsecond and have no instant in common
    lent_holding (datum 5_200_000 5_400_000 (2 ^ 1 ∷ []) ∷ datum 5_500_000 5_600_000 (2 ^ 2 ∷ []) ∷ []) [] (asking 0 Contradicted)
    ∷ lent_holding (datum 5_200_000 5_400_000 (2 ^ 1 ∷ []) ∷ datum 5_500_000 5_600_000 (2 ^ 2 ∷ []) ∷ []) [] (asking 1 (Between 5 6))
    -- [5.2,5.4] and [5.3,5.6] have
    ∷ lent_holding (datum 5_200_000 5_400_000 (2 ^ 1 ∷ []) ∷ datum 5_300_000 5_600_000 (2 ^ 2 ∷ []) ∷ []) [] (asking 0 (Between 5 6))
    -- an answer without millionths does not round
    ∷ lent_holding (datum 5_200_000 7_000_000 (2 ^ 1 ∷ []) ∷ datum 6_000_000 9_100_000 (2 ^ 2 ∷ []) ∷ []) [] (asking 0 (Between 6 7))
    -- rule 15: [5.2,5.9] and [5,6] under 1 give [5.2,5.9]
    ∷ lent_holding (datum 5_200_000 5_900_000 (2 ^ 1 ∷ []) ∷ []) (hear 1 5 6 [] ∷ []) (holding (datum 5_200_000 5_900_000 (2 ^ 1 ∷ []) ∷ []))
    -- rule 14: a new [5,9] under 1 does not lie within the held [5.2,9] under 1+2, so both stay
    ∷ lent_holding (datum 5_200_000 9_000_000 (2 ^ 1 ∷ 2 ^ 2 ∷ []) ∷ []) (hear 1 5 9 [] ∷ [])
    (holding (datum 5_200_000 9_000_000 (2 ^ 1 ∷ 2 ^ 2 ∷ []) ∷ whole 5 9 (2 ^ 1 ∷ []) ∷ []))
    -- but within a held [5,9.1] it does, and that goes
    ∷ lent_holding (datum 5_000_000 9_100_000 (2 ^ 1 ∷ 2 ^ 2 ∷ []) ∷ []) (hear 1 5 9 [] ∷ []) (holding (whole 5 9 (2 ^ 1 ∷ []) ∷ []))
    ∷ []

-- each row holds, whatever stands behind the state
unfoldable pub EachLent : Type 0
EachLent = (c : Lent) → In c fractions → (rest : List ℕ) → LentComes c rest
