-- Draw number n after an accepted start, by single draws and fills in any mixture, is word n of the document's keystream; by the laws of draws
-- that add up. And from an accepted start no draw is refused.
use mathlib.Core.Bool.{true}
use mathlib.Core.List.{List, [], ◌∷◌, ◌++◌}
use mathlib.Core.Path.{◌≡◌, refl, sym, ap, ap₂, ◌∙◌}
use Prim.Native.Nat.{ℕ, ◌+◌, ◌<◌, ◌≤◌}
use native.Mathlib.Nat.{add-zero, zero-add}
use native.Mathlib.Omega.{arith}
use borrow.Author.Tests.{le-leb, lt-leb}
use lib.Dec.{lit<}
use lib.ListN.{length, length-append}
use Rattle.standard.specs.Confidentiality.{IV-EEA3, bytes_iv-EEA3}
use Rattle.standard.specs.Generator.{State, after, keystream, started, word, word_at}
use Rattle.standard.specs.Loading.{load₁₂₈, load₂₅₆, row_of}
use Rattle.standard.specs.Notation.{listed}
use Rattle.standard.specs.Refusals.{Test, accepted, field_test, iv_test, key_test, limit_test, spent, state_test, tested, width_test}
use Rattle.standard.specs.States.{Counted, Held, drawn_on, from_start, from_zero, generator_formed, limit, moved}
use Rattle.standard.proofs.Cells.{Cells}
use Rattle.standard.proofs.Generator.{sound-started, stream-is}
use Rattle.standard.proofs.Held.{drawn-more, ready-generator_formed, ready_moved, word_at-moved}
use Rattle.standard.proofs.Listed.{length-listed, listed-append, listed-on}
use Rattle.standard.proofs.Tested.{Numbered, accepted-is, passed}
use Rattle.keystream.specs.Draws.{DrawOutcome, FillOutcome, draw_outcome, fill_outcome, refused_draw, refused_fill}
use Rattle.keystream.specs.Runs.{Draws, many, none, one}
use Rattle.keystream.specs.Starts.{StartOutcome, accepted_start, refused_start, start-EEA3, start_tag₂₅₆, start₁₂₈, start₂₅₆, strict_start-EEA3}

-- an accepted draw and an accepted fill are the answers of their definitions
drew : (g : Counted Held) (o : DrawOutcome) → o ≡ draw_outcome g → o.number ≡ accepted
    → o ≡ record { number = accepted; word = word g.held.meaning; state = drawn_on 1 g }
unfolding draw_outcome
drew g o told ok =
    told
    ∙ accepted-is (λ (x : DrawOutcome). x.number) (refused_draw g) (λ n. refl) (record { number = accepted; word = word g.held.meaning; state = drawn_on 1 g })
    (state_test (generator_formed g) ∷ limit_test g.count 1 ∷ []) (lit< tt, (lit< tt, tt)) (ap (λ (x : DrawOutcome). x.number) (sym told) ∙ ok)

filled : (g : Counted Held) (buffer : List ℕ) (o : FillOutcome) → o ≡ fill_outcome g buffer → o.number ≡ accepted
    → o ≡ record { number = accepted; state = drawn_on (length buffer) g; buffer = listed (word_at g.held.meaning) 0 (length buffer) }
unfolding fill_outcome
filled g buffer o told ok =
    told
    ∙ accepted-is (λ (x : FillOutcome). x.number) (refused_fill g buffer) (λ n. refl)
    (record { number = accepted; state = drawn_on (length buffer) g; buffer = listed (word_at g.held.meaning) 0 (length buffer) })
    (state_test (generator_formed g) ∷ limit_test g.count (length buffer) ∷ []) (lit< tt, (lit< tt, tt)) (ap (λ (x : FillOutcome). x.number) (sym told) ∙ ok)

-- words from a state, and words after them
module _ (g k : Counted Held) (n : ℕ) (at : k ≡ drawn_on n g) (front words : List ℕ) (first : front ≡ listed (word_at g.held.meaning) 0 n) where
  abbrev from : ℕ → ℕ
  from = word_at g.held.meaning

  all : length (front ++ words) ≡ n + length words
  all = length-append front words ∙ ap (λ (m : ℕ). m + length words) (ap length first ∙ length-listed from 0 n)

  on-words : words ≡ listed (word_at k.held.meaning) 0 (length words) → front ++ words ≡ listed from 0 (length (front ++ words))
  on-words then =
      ap₂ ◌++◌ first
      (then
      ∙ listed-on (word_at k.held.meaning) from 0 (0 + n) (length words)
      (λ m. ap₂ (λ (j : Counted Held) (i : ℕ). word_at j.held.meaning i) at (zero-add m) ∙ word_at-moved n m g.held ∙ ap (λ (i : ℕ). from (i + m)) (sym (zero-add n))))
      ∙ sym (ap (listed from 0) all ∙ listed-append from 0 n (length words))

  on-state : {g' : Counted Held} → g' ≡ drawn_on (length words) k → g' ≡ drawn_on (length (front ++ words)) g
  on-state e = e ∙ ap (drawn_on (length words)) at ∙ drawn-more n (length words) g ∙ ap (λ (m : ℕ). drawn_on m g) (sym all)

-- any run of draws
pub draws-are : {g g' : Counted Held} {words : List ℕ} → Draws g words g'
    → (words ≡ listed (word_at g.held.meaning) 0 (length words)) × (g' ≡ drawn_on (length words) g)
unfolding listed moved after word_at
draws-are {g} none = (refl, λ i. record { held = g.held; count = sym (add-zero g.count) i })
draws-are {g} (one {words = words} o told ok rest) =
    let e = drew g o told ok in
    let then = draws-are rest in
    let at : o.state ≡ drawn_on 1 g = ap (λ (x : DrawOutcome). x.state) e in
    let first : o.word ∷ [] ≡ listed (word_at g.held.meaning) 0 1 = ap (λ (x : DrawOutcome). x.word ∷ []) e in
    (on-words g o.state 1 at (o.word ∷ []) words first then.0, on-state g o.state 1 at (o.word ∷ []) words first then.1)
draws-are {g} (many {words = words} buffer o told ok rest) =
    let e = filled g buffer o told ok in
    let then = draws-are rest in
    let at : o.state ≡ drawn_on (length buffer) g = ap (λ (x : FillOutcome). x.state) e in
    let first : o.buffer ≡ listed (word_at g.held.meaning) 0 (length buffer) = ap (λ (x : FillOutcome). x.buffer) e in
    (on-words g o.state (length buffer) at o.buffer words first then.0, on-state g o.state (length buffer) at o.buffer words first then.1)

-- an accepted start is at rest over what was loaded
started-is : (tests : List Test) → Numbered tests → (loaded : State) (start : StartOutcome) → start ≡ tested tests refused_start (accepted_start loaded)
    → start.number ≡ accepted → start.state ≡ from_start (from_zero (started loaded))
started-is tests low loaded start told ok =
    ap (λ (x : StartOutcome). x.state)
    (told
    ∙ accepted-is (λ (x : StartOutcome). x.number) refused_start (λ n. refl) (accepted_start loaded) tests low (ap (λ (x : StartOutcome). x.number) (sym told) ∙ ok))

module _ (start : StartOutcome) (ok : start.number ≡ accepted) where
  pub at-rest-zuc128 : (key iv : List ℕ) → start ≡ start₁₂₈ key iv → start.state ≡ from_start (from_zero (started (load₁₂₈ key iv)))
  unfolding start₁₂₈
  at-rest-zuc128 key iv told = started-is (key_test 16 key ∷ iv_test 16 iv ∷ []) (lit< tt, (lit< tt, tt)) (load₁₂₈ key iv) start told ok

  pub at-rest-eea3 : (count bearer direction : ℕ) (key : List ℕ) → start ≡ start-EEA3 count bearer direction key
      → start.state ≡ from_start (from_zero (started (load₁₂₈ key (IV-EEA3 count bearer direction))))
  unfolding start-EEA3
  at-rest-eea3 count bearer direction key told =
      started-is (key_test 16 key ∷ []) (lit< tt, tt) (load₁₂₈ key (IV-EEA3 count bearer direction)) start told ok

  pub at-rest-eea3-strict : (count bearer direction : ℕ) (key : List ℕ) → start ≡ strict_start-EEA3 count bearer direction key
      → start.state ≡ from_start (from_zero (started (load₁₂₈ key (bytes_iv-EEA3 count bearer direction))))
  unfolding strict_start-EEA3
  at-rest-eea3-strict count bearer direction key told =
      started-is (key_test 16 key ∷ field_test bearer direction ∷ []) (lit< tt, (lit< tt, tt)) (load₁₂₈ key (bytes_iv-EEA3 count bearer direction)) start told ok

  pub at-rest-zuc256 : (d key iv : List ℕ) → start ≡ start₂₅₆ d key iv → start.state ≡ from_start (from_zero (started (load₂₅₆ d key iv)))
  unfolding start₂₅₆
  at-rest-zuc256 d key iv told = started-is (key_test 32 key ∷ iv_test 23 iv ∷ []) (lit< tt, (lit< tt, tt)) (load₂₅₆ d key iv) start told ok

  pub at-rest-tag : (width : ℕ) (key iv : List ℕ) → start ≡ start_tag₂₅₆ width key iv → start.state ≡ from_start (from_zero (started (load₂₅₆ (row_of width) key iv)))
  unfolding start_tag₂₅₆
  at-rest-tag width key iv told =
      started-is (width_test width ∷ key_test 32 key ∷ iv_test 23 iv ∷ []) (lit< tt, (lit< tt, (lit< tt, tt))) (load₂₅₆ (row_of width) key iv) start told ok

-- THE WORDS: after a start that is at rest over what was loaded, any run of draws gives the document's keystream from its first word on,
-- and the count of the state that it leaves is the number of words drawn
pub words-drawn : (loaded : State) {g g' : Counted Held} {words : List ℕ} → g ≡ from_start (from_zero (started loaded)) → Draws g words g'
    → (words ≡ listed (keystream loaded) 0 (length words)) × (g' ≡ record { held = moved (length words) (from_zero (started loaded)); count = length words })
words-drawn loaded {words = words} e run =
    let are = draws-are run in (
      are.0 ∙ ap (λ (f : ℕ → ℕ). listed f 0 (length words)) (ap (λ (k : Counted Held). word_at k.held.meaning) e ∙ sym (stream-is loaded)),
      are.1 ∙ ap (drawn_on (length words)) e ∙ (λ i. record { held = moved (length words) (from_zero (started loaded)); count = zero-add (length words) i }),
    )

-- and none of it is refused while the words are within the limit: with n of them drawn
module _ (loaded : State) (c : Cells loaded.cells) (n : ℕ) where
  abbrev at : Counted Held
  at = record { held = moved n (from_zero (started loaded)); count = n }

  formed : n ≤ limit → generator_formed at ≡ true
  formed l = ready-generator_formed (ready_moved n (from_zero (started loaded)) (record { cells = sound-started loaded c; start = lit< tt })) l

  pub draw-accepted : n + 1 ≤ limit → (draw_outcome at).number ≡ accepted
  unfolding draw_outcome
  draw-accepted l =
      ap (λ (x : DrawOutcome). x.number)
      (passed (state_test (generator_formed at) ∷ limit_test n 1 ∷ []) (refused_draw at) _ (formed (omega arith), (le-leb (n + 1) limit l, tt)))

  pub fill-accepted : (buffer : List ℕ) → n + length buffer ≤ limit → (fill_outcome at buffer).number ≡ accepted
  unfolding fill_outcome
  fill-accepted buffer l =
      ap (λ (x : FillOutcome). x.number)
      (passed (state_test (generator_formed at) ∷ limit_test n (length buffer) ∷ []) (refused_fill at buffer) _
      (formed (omega arith), (le-leb (n + length buffer) limit l, tt)))

  -- and by 16 where they are not
  pub draw-spent : n ≤ limit → limit < n + 1 → (draw_outcome at).number ≡ spent
  unfolding draw_outcome tested
  draw-spent w l = rw (formed w, lt-leb (n + 1) limit l) refl

  pub fill-spent : (buffer : List ℕ) → n ≤ limit → limit < n + length buffer → (fill_outcome at buffer).number ≡ spent
  unfolding fill_outcome tested
  fill-spent buffer w l = rw (formed w, lt-leb (n + length buffer) limit l) refl
