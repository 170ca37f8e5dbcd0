-- A state that stands behind a start is the standard's state after as many draws as its count says, of a proper load; by what each call tells.
use mathlib.Core.Bool.{Bool, true, false}
use mathlib.Core.List.{List, [], ◌∷◌}
use mathlib.Core.Logic.{inl, inr}
use mathlib.Core.Path.{◌≡◌, refl, sym, ap, ◌∙◌, subst}
use Prim.Native.Nat.{ℕ}
use borrow.Author.Tests.{eqb-true}
use lib.Dec.{eqb, lit<}
use lib.ListN.{length}
use Rattle.standard.specs.Generator.{State, started}
use Rattle.standard.specs.Integrity.{IV-EIA3}
use Rattle.standard.specs.Loading.{d-keystream, d-tag₁₂₈, d-tag₃₂, d-tag₆₄, load₁₂₈, load₂₅₆, row_of}
use Rattle.std.specs.Prelude.{if◌then◌else◌}
use Rattle.standard.specs.Refusals.{Test, accepted, bits_test, iv_test, key_test, limit_test, state_test, tested, width_test}
use Rattle.standard.specs.States.{Counted, Held, drawn_on, from_start, from_zero, generator_formed, moved}
use Rattle.standard.proofs.Held.{moved-moved, moved_none}
use Rattle.standard.proofs.Parts.{OfBytes}
use Rattle.standard.proofs.Tested.{AllPass, Numbered, accepted-passed, either}
use Rattle.zuc_loading.proofs.Loaded.{Bytes}
use Rattle.zuc_apart.specs.Given.{Given, IsRow, Proper, load_of, of_EEA3, of_EIA3, zuc128, zuc256}
use Rattle.zuc_apart.proofs.Vectors.{EEA3-bytes}
use Rattle.keystream.specs.Draws.{DrawOutcome, FillOutcome, draw_outcome, fill_outcome, refused_draw, refused_fill}
use Rattle.keystream.specs.Runs.{Draws, many, none, one}
use Rattle.keystream.specs.Starts.{StartOutcome, accepted_start, refused_start, start-EEA3, start_tag₂₅₆, start₁₂₈, start₂₅₆}
use Rattle.keystream.proofs.Words.{at-rest-eea3, at-rest-tag, at-rest-zuc128, at-rest-zuc256}
use Rattle.mask.specs.Outcome.{Outcome, drawn, mask_tested, refused}
use Rattle.mac.specs.Calls as mac
use Rattle.mac_laws.proofs.Counts.{count-128, count-256, words-128, words-256}
use Rattle.mac_laws.proofs.Cuttings.{iv-bytes}
use Rattle.mac_laws.proofs.Runs.{start-128, start-256, start-EIA3}
use Rattle.starts.specs.Stands.{Stands, eea3-new, fill, generate, mask, tag-eia3, tag-zuc128, tag-zuc256, zuc128-new, zuc256-new, zuc256-new-with-d}

-- what is held after so many draws behind the start of what was given
abbrev pub At : Given → Counted Held → Type 0
At a g = g.held ≡ moved g.count (from_zero (started (load_of a)))

-- a start
at-start : (a : Given) {g : Counted Held} → g ≡ from_start (from_zero (started (load_of a))) → At a g
at-start a e = subst (At a) (sym e) (sym (moved_none (from_zero (started (load_of a)))))

-- a call that hands back the state that it was lent, or that state with words drawn
module _ {O : Type 0} (state : O → Counted Held) (a : Given) (g : Counted Held) (h : At a g) where
  on : (tests : List Test) → Numbered tests → (refused : ℕ → O) (answer : O) (words : ℕ) → ((n : ℕ) → state (refused n) ≡ g) → state answer ≡ drawn_on words g
      → {o : O} → o ≡ tested tests refused answer → At a (state o)
  on tests low refused answer words left drew told =
      subst (λ (x : O). At a (state x)) (sym told)
      (either (λ (x : O). At a (state x)) tests low refused answer (λ n. subst (At a) (sym (left n)) h)
      (λ all. subst (At a) (sym drew) (ap (moved words) h ∙ moved-moved g.count words (from_zero (started (load_of a))))))

-- an accepted start passed its tests
start-passed : (tests : List Test) → Numbered tests → (loaded : State) (o : StartOutcome) → o ≡ tested tests refused_start (accepted_start loaded)
    → o.number ≡ accepted → AllPass tests
start-passed tests low loaded o told ok =
    accepted-passed (λ (x : StartOutcome). x.number) refused_start (λ n. refl) (accepted_start loaded) tests low (ap (λ (x : StartOutcome). x.number) (sym told) ∙ ok)

tag-passed : (tests : List Test) → Numbered tests → (begun o : mac.Outcome) → o ≡ tested tests mac.refused_tag begun → o.number ≡ accepted → AllPass tests
tag-passed tests low begun o told ok =
    accepted-passed (λ (x : mac.Outcome). x.number) mac.refused_tag (λ n. refl) begun tests low (ap (λ (x : mac.Outcome). x.number) (sym told) ∙ ok)

-- so that key and IV have their lengths, and the row is one of the four
of-bytes : (n : ℕ) {l : List ℕ} → eqb (length l) n ≡ true → Bytes l → OfBytes n l
of-bytes n {l} e b = record { long = eqb-true (length l) n e; small = b }

EIA3-long : (count bearer direction : ℕ) → length (IV-EIA3 count bearer direction) ≡ 16
unfolding IV-EIA3
EIA3-long count bearer direction = refl

one-of-four : (width : ℕ) → IsRow (row_of width)
one-of-four width = first (eqb width 4) (eqb width 8)
  where
    first : (p q : Bool) → IsRow (if p then d-tag₃₂ else if q then d-tag₆₄ else d-tag₁₂₈)
    first true q = inr (inl refl)
    first false true = inr (inr (inl refl))
    first false false = inr (inr (inr refl))

-- the generator of a tag has drawn what the state's count says
counted : (loaded : State) {h : Held} {m n : ℕ} → h ≡ moved m (from_zero (started loaded)) → n ≡ m → h ≡ moved n (from_zero (started loaded))
counted loaded words count = words ∙ ap (λ (k : ℕ). moved k (from_zero (started loaded))) (sym count)

pub stands_at : {a : Given} {g : Counted Held} → Stands a g → At a g
unfolding draw_outcome fill_outcome mask_tested
stands_at (zuc128-new {key = key} {iv = iv} k v o told ok) = at-start (zuc128 key iv) (at-rest-zuc128 o ok key iv told)
stands_at (eea3-new c b d {key = key} k o told ok) = at-start (of_EEA3 c b d key) (at-rest-eea3 o ok c b d key told)
stands_at (zuc256-new {key = key} {iv = iv} k v o told ok) = at-start (zuc256 d-keystream key iv) (at-rest-zuc256 o ok d-keystream key iv told)
stands_at (zuc256-new-with-d w {key = key} {iv = iv} k v o told ok) = at-start (zuc256 (row_of w) key iv) (at-rest-tag o ok w key iv told)
stands_at (generate {a = a} {g = g} s o told) =
    on (λ (x : DrawOutcome). x.state) a g (stands_at s) (state_test (generator_formed g) ∷ limit_test g.count 1 ∷ []) (lit< tt, (lit< tt, tt)) (refused_draw g) _ 1 (λ n. refl) refl told
stands_at (fill {a = a} {g = g} s buffer o told) =
    on (λ (x : FillOutcome). x.state) a g (stands_at s) (state_test (generator_formed g) ∷ limit_test g.count (length buffer) ∷ []) (lit< tt, (lit< tt, tt)) (refused_fill g buffer) _
    (length buffer) (λ n. refl) refl told
stands_at (mask {a = a} {g = g} s words L buffer masked o told) =
    on (λ (x : Outcome). x.state) a g (stands_at s) (state_test (generator_formed g) ∷ bits_test L buffer ∷ limit_test g.count words ∷ []) (lit< tt, (lit< tt, (lit< tt, tt))) (refused g buffer)
    (drawn words g masked) words (λ n. refl) refl told
stands_at (tag-zuc128 {key = key} {iv = iv} k v o told ok run) =
    let begun = start-128 key iv o told ok in
    counted (load₁₂₈ key iv) (words-128 (load₁₂₈ key iv) begun run) (count-128 (load₁₂₈ key iv) begun run)
stands_at (tag-eia3 c b d {key = key} k o told ok run) =
    let loaded : State = load_of (of_EIA3 c b d key) in
    let begun = start-EIA3 c b d key o told ok in
    counted loaded (words-128 loaded begun run) (count-128 loaded begun run)
stands_at (tag-zuc256 w {key = key} {iv = iv} k v o told ok run) =
    let loaded : State = load₂₅₆ (row_of w) key iv in
    let begun = start-256 w key iv o told ok in
    counted loaded (words-256 loaded begun.0 begun.1 run) (count-256 loaded begun.0 begun.1 run)

pub stands-proper : {a : Given} {g : Counted Held} → Stands a g → Proper a
unfolding start₁₂₈ start-EEA3 start₂₅₆ start_tag₂₅₆ mac.start_outcome-128 mac.start_outcome-EIA3 mac.start_outcome-256
stands-proper (zuc128-new {key = key} {iv = iv} k v o told ok) =
    let all = start-passed (key_test 16 key ∷ iv_test 16 iv ∷ []) (lit< tt, (lit< tt, tt)) (load₁₂₈ key iv) o told ok in
    (of-bytes 16 all.0 k, of-bytes 16 all.1.0 v)
stands-proper (eea3-new c b d {key = key} k o told ok) =
    let all = start-passed (key_test 16 key ∷ []) (lit< tt, tt) (load_of (of_EEA3 c b d key)) o told ok in
    (of-bytes 16 all.0 k, EEA3-bytes c b d)
stands-proper (zuc256-new {key = key} {iv = iv} k v o told ok) =
    let all = start-passed (key_test 32 key ∷ iv_test 23 iv ∷ []) (lit< tt, (lit< tt, tt)) (load₂₅₆ d-keystream key iv) o told ok in
    (inl refl, of-bytes 32 all.0 k, of-bytes 23 all.1.0 v)
stands-proper (zuc256-new-with-d w {key = key} {iv = iv} k v o told ok) =
    let all = start-passed (width_test w ∷ key_test 32 key ∷ iv_test 23 iv ∷ []) (lit< tt, (lit< tt, (lit< tt, tt))) (load₂₅₆ (row_of w) key iv) o told ok in
    (one-of-four w, of-bytes 32 all.1.0 k, of-bytes 23 all.1.1.0 v)
stands-proper (generate s o told) = stands-proper s
stands-proper (fill s buffer o told) = stands-proper s
stands-proper (mask s words L buffer masked o told) = stands-proper s
stands-proper (tag-zuc128 {key = key} {iv = iv} k v o told ok run) =
    let all = tag-passed (key_test 16 key ∷ iv_test 16 iv ∷ []) (lit< tt, (lit< tt, tt)) (mac.begun_tag-128 (load₁₂₈ key iv)) o told ok in
    (of-bytes 16 all.0 k, of-bytes 16 all.1.0 v)
stands-proper (tag-eia3 c b d {key = key} k o told ok run) =
    let all = tag-passed (key_test 16 key ∷ []) (lit< tt, tt) (mac.begun_tag-128 (load_of (of_EIA3 c b d key))) o told ok in
    (of-bytes 16 all.0 k, record { long = EIA3-long c b d; small = iv-bytes c b d })
stands-proper (tag-zuc256 w {key = key} {iv = iv} k v o told ok run) =
    let all = tag-passed (width_test w ∷ key_test 32 key ∷ iv_test 23 iv ∷ []) (lit< tt, (lit< tt, (lit< tt, tt))) (mac.begun_tag-256 w (load₂₅₆ (row_of w) key iv)) o told ok in
    (one-of-four w, of-bytes 32 all.1.0 k, of-bytes 23 all.1.1.0 v)

-- the runs of keystream/specs/Runs.antt are of such calls
pub draws-stand : {a : Given} {g g' : Counted Held} {words : List ℕ} → Stands a g → Draws g words g' → Stands a g'
draws-stand s none = s
draws-stand s (one o told ok rest) = draws-stand (generate s o told) rest
draws-stand s (many buffer o told ok rest) = draws-stand (fill s buffer o told) rest
