-- What accepted calls do, from their contracts: the state after any updates is the packing of the joined message's state.
use mathlib.Core.Bool.{Bool, true}
use mathlib.Core.List.{List, [], ◌∷◌, ◌++◌}
use mathlib.Core.Path.{◌≡◌, refl, sym, ap, ◌∙◌}
use Prim.Native.Nat.{ℕ, ◌+◌, ◌*◌, ◌≤◌}
use lib.Dec.{lit<}
use lib.ListN.{length}
use borrow.Author.Tests.{leb-true}
use Rattle.standard.specs.Loading.{load₁₂₈, load₂₅₆, row_of}
use Rattle.standard.specs.Integrity.{IV-EIA3}
use Rattle.standard.specs.Notation.{joined}
use Rattle.standard.specs.Refusals.{Test, accepted, bits_test, iv_test, key_test, limit_test, state_test, tested, width_test}
use Rattle.standard.specs.States.{Counted, Stored, from_start, limit, tag_formed, zero_stored}
use Rattle.standard.proofs.Tested.{AllPass, Numbered, accepted-passed, passed}
use Rattle.mac_registers.specs.Stored.{packed, tagging_of}
use Rattle.mac_registers.specs.Inner.{Width}
use Rattle.mac_registers.specs.Tagging.{Tagging, updated}
use Rattle.mac_registers.proofs.Cutting.{updated-append}
use Rattle.mac_registers.proofs.Packed.{read_back, width_is}
use Rattle.mac.specs.Calls.{Closing, Outcome, begun_tag-128, begun_tag-256, closing, refused_closing, refused_tag, refused_update, start_outcome-128, start_outcome-256, start_outcome-EIA3, taken_in, update_outcome, update_words}
use Rattle.mac.specs.Runs.{Tagged, Updates, more, none}

-- an accepted update and an accepted closing, told by their definitions
pub update-accepted : (ok : Bool) (s : Counted Stored) (m : List ℕ) → (update_outcome ok s m).number ≡ 0
    → (ok ≡ true) × (s.count + update_words s.held m ≤ limit) × ((update_outcome ok s m).state ≡ taken_in s m)
unfolding update_outcome
update-accepted ok s m e =
    let done : Outcome = record { number = accepted; state = taken_in s m } in
    let tests : List Test = state_test ok ∷ limit_test s.count (update_words s.held m) ∷ [] in
    let all : AllPass tests = accepted-passed (λ (o : Outcome). o.number) (refused_update s) (λ n. refl) done tests (lit< tt, (lit< tt, tt)) e in (
      all.0,
      leb-true (s.count + update_words s.held m) limit all.1.0,
      ap (λ (o : Outcome). o.state) (passed tests (refused_update s) done all),
    )

pub closing-accepted : {Tag : Type 0} (empty : Tag) (ok : Bool) (s : Counted Stored) (words : ℕ) (tail : List ℕ) (l : ℕ) (tag : Tag)
    → (closing empty ok s words tail l tag).number ≡ 0
    → (l ≤ length tail * 8) × (s.count + words ≤ limit) × ((closing empty ok s words tail l tag).tag ≡ tag)
unfolding closing
closing-accepted {Tag} empty ok s words tail l tag e =
    let closed : Closing Tag = record { number = accepted; tag = tag; state = from_start zero_stored } in
    let tests : List Test = state_test ok ∷ bits_test l tail ∷ limit_test s.count words ∷ [] in
    let all : AllPass tests =
    accepted-passed (λ (o : Closing Tag). o.number) (refused_closing empty s) (λ n. refl) closed tests (lit< tt, (lit< tt, (lit< tt, tt))) e in (
      leb-true l (length tail * 8) all.1.0,
      leb-true (s.count + words) limit all.1.1.0,
      ap (λ (o : Closing Tag). o.tag) (passed tests (refused_closing empty s) closed all),
    )

-- a packed state, stepped
pub at-state : {A : Type 0} (F : ℕ → Tagging → A) {w : ℕ} → Width w → (st : Tagging) {s : Stored} → s ≡ packed w st → F s.width (tagging_of s) ≡ F w st
unfolding packed
at-state F {w} v st e = ap (λ (x : Stored). F x.width (tagging_of x)) e ∙ ap (F w) (read_back v st)

-- an accepted update of a packed state takes in its message
pub update-is : (ok : Bool) {w : ℕ} → Width w → (s : Counted Stored) (m : List ℕ) (o : Outcome) → o ≡ update_outcome ok s m → o.number ≡ 0
    → (st : Tagging) → s.held ≡ packed w st → o.state.held ≡ packed w (updated (w * 8) st m)
update-is ok {w} v s m o told fine st e =
    ap (λ (x : Outcome). x.state.held) told
    ∙ ap (λ (x : Counted Stored). x.held) (update-accepted ok s m (ap (λ (x : Outcome). x.number) (sym told) ∙ fine)).2
    ∙ at-state (λ x y. packed x (updated (x * 8) y m)) v st e

-- any accepted updates take in the joined message
pub updates-are : {test : Stored → Bool} {w : ℕ} → Width w → {s s' : Counted Stored} {parts : List (List ℕ)} → Updates test s parts s'
    → (st : Tagging) → s.held ≡ packed w st → s'.held ≡ packed w (updated (w * 8) st (joined parts))
unfolding joined updated
updates-are v none st e = e
updates-are {test} {w} v {s} (more {part = part} {parts = parts} o told ok rest) st e =
    updates-are v rest (updated (w * 8) st part) (update-is (tag_formed test s) v s part o told ok st e)
    ∙ ap (packed w) (sym (updated-append (w * 8) st part (joined parts)))

-- a closing ends the run of a start and its updates
abbrev pub ended : {Tag : Type 0} (test : Stored → Bool) (finish_outcome : Counted Stored → List ℕ → ℕ → Closing Tag) (number_in : Tag → ℕ)
    (parts : List (List ℕ)) (start : Outcome) → start.number ≡ 0 → (last : Counted Stored) → Updates test start.state parts last
    → (tail : List ℕ) (l : ℕ) (end : Closing Tag) → end ≡ finish_outcome last tail l → end.number ≡ 0
    → Tagged test finish_outcome number_in start (joined parts ++ tail) (length (joined parts) * 8 + l) (number_in end.tag)
ended test finish_outcome number_in parts start begun last run tail l end told ok =
    record {
      parts = parts;
      tail = tail;
      l = l;
      message-is = refl;
      L-is = refl;
      started = begun;
      last = last;
      updates = run;
      end = end;
      closes = told;
      accepted = ok;
      tag_is = refl;
    }

-- an accepted start passed its tests, and is begun over what was loaded
module _ (tests : List Test) (low : Numbered tests) (begun start : Outcome) (told : start ≡ tested tests refused_tag begun) (ok : start.number ≡ 0) where
  all-passed : AllPass tests
  all-passed = accepted-passed (λ (o : Outcome). o.number) refused_tag (λ n. refl) begun tests low (ap (λ (o : Outcome). o.number) (sym told) ∙ ok)

  state-begun : start.state ≡ begun.state
  state-begun = ap (λ (o : Outcome). o.state) (told ∙ passed tests refused_tag begun all-passed)

pub start-128 : (key iv : List ℕ) (start : Outcome) → start ≡ start_outcome-128 key iv → start.number ≡ 0
    → start.state ≡ (begun_tag-128 (load₁₂₈ key iv)).state
unfolding start_outcome-128
start-128 key iv start = state-begun (key_test 16 key ∷ iv_test 16 iv ∷ []) (lit< tt, (lit< tt, tt)) (begun_tag-128 (load₁₂₈ key iv)) start

pub start-EIA3 : (count bearer direction : ℕ) (key : List ℕ) (start : Outcome) → start ≡ start_outcome-EIA3 count bearer direction key → start.number ≡ 0
    → start.state ≡ (begun_tag-128 (load₁₂₈ key (IV-EIA3 count bearer direction))).state
unfolding start_outcome-EIA3
start-EIA3 count bearer direction key start = state-begun (key_test 16 key ∷ []) (lit< tt, tt) (begun_tag-128 (load₁₂₈ key (IV-EIA3 count bearer direction))) start

pub start-256 : (w : ℕ) (key iv : List ℕ) (start : Outcome) → start ≡ start_outcome-256 w key iv → start.number ≡ 0
    → Width w × (start.state ≡ (begun_tag-256 w (load₂₅₆ (row_of w) key iv)).state)
unfolding start_outcome-256
start-256 w key iv start e z =
    let tests : List Test = width_test w ∷ key_test 32 key ∷ iv_test 23 iv ∷ [] in
    let low : Numbered tests = (lit< tt, (lit< tt, (lit< tt, tt))) in
    let begun : Outcome = begun_tag-256 w (load₂₅₆ (row_of w) key iv) in
    (width_is w (all-passed tests low begun start e z).0, state-begun tests low begun start e z)
