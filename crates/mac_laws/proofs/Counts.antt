-- The words drawn after each call (document 01, "Tags"), that a state's count is just these, and that an empty update changes nothing; by
-- the running rule's own counts.
use mathlib.Core.Bool.{Bool, true}
use mathlib.Core.List.{List, [], ◌++◌}
use mathlib.Core.Logic.{inl}
use mathlib.Core.Path.{◌≡◌, refl, sym, ap, ◌∙◌, subst}
use Prim.Native.Nat.{ℕ, ◌+◌, ◌*◌, ◌<◌, ◌≤◌}
use native.Mathlib.Nat.{add_assoc, mod-lt}
use native.Mathlib.Omega.{arith}
use lib.Dec.{leb, lit<}
use lib.ListN.{length, length-append}
use borrow.Author.Tests.{le-leb}
use Rattle.standard.specs.Generator.{State, started}
use Rattle.standard.specs.Integrity.{drawn_after-EIA3, drawn_after-ZUC256, drawn_by_tag-EIA3, drawn_by_tag-ZUC256, words_to_update}
use Rattle.standard.specs.Notation.{joined}
use Rattle.standard.specs.Refusals.{tested}
use Rattle.standard.specs.States.{Counted, Stored, formed, formed-128, from_zero, limit, moved, tag_formed}
use Rattle.mac_registers.specs.Stored.{packed, tagging_of}
use Rattle.mac_registers.specs.Inner.{Width, extra_state}
use Rattle.mac_registers.specs.Tagging.{Tagging, begun-EIA3, begun-ZUC256, ended, left_over, updated}
use Rattle.mac_registers.proofs.Packed.{width-whole}
use Rattle.mac_tagging.proofs.Rule.{drawn-EIA3, drawn-ZUC256, drawn-closing-EIA3, drawn-closing-ZUC256}
use Rattle.mac_counts.proofs.Drawn.{drew-updated, none-drawn}
use Rattle.mac_counts.proofs.InTurn.{update-in-turn, updates-EIA3, updates-ZUC256}
use Rattle.mac.specs.Calls.{Outcome, begun_tag-128, begun_tag-256, update_outcome, update_words}
use Rattle.mac.specs.Inner.{Within}
use Rattle.mac.specs.Runs.{Updates, more, none}
use Rattle.mac.proofs.Outcomes.{holds-short}
use Rattle.mac_laws.proofs.Runs.{at-state, update-accepted, update-is, updates-are}

-- an update of a, and then one of b, draw what one of both does
pub words-in-turn : {w : ℕ} (st : Tagging) → length st.waiting < w → (a b : List ℕ)
    → words_to_update (w * 8) (length st.waiting) (length a) + words_to_update (w * 8) (length (updated (w * 8) st a).waiting) (length b)
    ≡ words_to_update (w * 8) (length st.waiting) (length (a ++ b))
words-in-turn {w} st short a b =
    let c : ℕ = length st.waiting in
    let pos : 0 < w = omega arith in
    ap (λ (n : ℕ). words_to_update (w * 8) c (length a) + words_to_update (w * 8) n (length b)) (drew-updated pos a st short).1
    ∙ update-in-turn w c (length a) pos (length b)
    ∙ ap (words_to_update (w * 8) c) (sym (length-append a b))

-- updates raise the count by what one update of the joined message would
pub count-is : {test : Stored → Bool} {w : ℕ} → Width w → {s s' : Counted Stored} {parts : List (List ℕ)} → Updates test s parts s'
    → (st : Tagging) → length st.waiting < w → s.held ≡ packed w st
    → s'.count ≡ s.count + words_to_update (w * 8) (length st.waiting) (length (joined parts))
unfolding joined packed
count-is {w = w} v {s} none st short e = omega (arith, none-drawn w (length st.waiting) 0 (omega arith))
count-is {test} {w} v {s} {s'} (more {part = part} {parts = parts} o told ok rest) st short e =
    let c : ℕ = length st.waiting in
    let mid : Tagging = updated (w * 8) st part in
    let few : length mid.waiting < w =
    subst (λ (n : ℕ). n < w) (sym (drew-updated (omega arith) part st short).1) (mod-lt (c + length part) (omega arith)) in
    let first : o.state.count ≡ s.count + words_to_update (w * 8) c (length part) =
    ap (λ (x : Outcome). x.state.count) told
    ∙ ap (λ (x : Counted Stored). x.count) (update-accepted (tag_formed test s) s part (ap (λ (x : Outcome). x.number) (sym told) ∙ ok)).2
    ∙ ap (λ (x : Stored). s.count + update_words x part) e in
    count-is v rest mid few (update-is (tag_formed test s) v s part o told ok st e)
    ∙ ap (λ (n : ℕ). n + words_to_update (w * 8) (length mid.waiting) (length (joined parts))) first
    ∙ add_assoc s.count (words_to_update (w * 8) c (length part)) (words_to_update (w * 8) (length mid.waiting) (length (joined parts)))
    ∙ ap (λ (n : ℕ). s.count + n) (words-in-turn st short part (joined parts))

-- ZUC-128 and EIA3: s is the state of an accepted start, last the state after accepted updates
module _ (loaded : State) {s last : Counted Stored} {parts : List (List ℕ)} (begun : s ≡ (begun_tag-128 loaded).state)
    (updates : Updates formed-128 s parts last) where
  st : Tagging
  st = updated 32 (begun-EIA3 (from_zero (started loaded))) (joined parts)

  last-is : last.held ≡ packed 4 st
  unfolding st
  last-is = updates-are (inl refl) updates (begun-EIA3 (from_zero (started loaded))) (ap (λ (x : Counted Stored). x.held) begun)

  -- after N bytes, 2 + floor(N/4)
  pub words-128 : last.held.generator ≡ moved (drawn_after-EIA3 (length (joined parts))) (from_zero (started loaded))
  unfolding packed st
  words-128 = ap (λ (x : Stored). x.generator) last-is ∙ drawn-EIA3 (from_zero (started loaded)) (joined parts)

  -- and that is the state's count
  pub count-128 : last.count ≡ drawn_after-EIA3 (length (joined parts))
  unfolding begun-EIA3
  count-128 =
      count-is (inl refl) updates (begun-EIA3 (from_zero (started loaded))) (lit< tt) (ap (λ (x : Counted Stored). x.held) begun)
      ∙ ap (λ (x : Counted Stored). x.count + words_to_update (4 * 8) 0 (length (joined parts))) begun
      ∙ updates-EIA3 (length (joined parts))

  -- a closing brings that to ceil(L/32) + 2: the generator after the extra word
  pub words-closing-128 : (tail : List ℕ) (l : ℕ) → l ≤ length tail * 8
      → extra_state (ended 32 (tagging_of last.held) tail l) (left_over (ended 32 (tagging_of last.held) tail l) l)
      ≡ moved (drawn_by_tag-EIA3 (length (joined parts) * 8 + l)) (from_zero (started loaded))
  unfolding st
  words-closing-128 tail l h =
      at-state (λ w x. extra_state (ended 32 x tail l) (left_over (ended 32 x tail l) l)) (inl refl) st last-is
      ∙ drawn-closing-EIA3 (from_zero (started loaded)) (joined parts) tail l h

-- ZUC-256 at a width
module _ (loaded : State) {w : ℕ} (v : Width w) {s last : Counted Stored} {parts : List (List ℕ)} (begun : s ≡ (begun_tag-256 w loaded).state)
    (updates : Updates formed s parts last) where
  st-256 : Tagging
  st-256 = updated (w * 8) (begun-ZUC256 (w * 8) (from_zero (started loaded))) (joined parts)

  last-256 : last.held ≡ packed w st-256
  unfolding st-256
  last-256 = updates-are v updates (begun-ZUC256 (w * 8) (from_zero (started loaded))) (ap (λ (x : Counted Stored). x.held) begun)

  -- after N bytes, t/32·(3 + floor(8N/t))
  pub words-256 : last.held.generator ≡ moved (drawn_after-ZUC256 (w * 8) (length (joined parts))) (from_zero (started loaded))
  unfolding packed st-256
  words-256 = ap (λ (x : Stored). x.generator) last-256 ∙ drawn-ZUC256 (w * 8) (width-whole v).0 (width-whole v).1 (from_zero (started loaded)) (joined parts)

  pub count-256 : last.count ≡ drawn_after-ZUC256 (w * 8) (length (joined parts))
  unfolding begun-ZUC256
  count-256 =
      count-is v updates (begun-ZUC256 (w * 8) (from_zero (started loaded))) (omega (arith, width-whole v)) (ap (λ (x : Counted Stored). x.held) begun)
      ∙ ap (λ (x : Counted Stored). x.count + words_to_update (w * 8) 0 (length (joined parts))) begun
      ∙ updates-ZUC256 (w * 8) (length (joined parts))

  -- a closing brings that to t/32·(3 + floor(L/t)): it draws no word beyond those of the tail's whole bytes
  pub words-closing-256 : (tail : List ℕ) (l : ℕ) → l ≤ length tail * 8
      → (ended (w * 8) (tagging_of last.held) tail l).generator ≡ moved (drawn_by_tag-ZUC256 (w * 8) (length (joined parts) * 8 + l)) (from_zero (started loaded))
  unfolding st-256
  words-closing-256 tail l h =
      at-state (λ x y. (ended (w * 8) y tail l).generator) v st-256 last-256
      ∙ drawn-closing-ZUC256 (w * 8) (width-whole v).0 (width-whole v).1 (from_zero (started loaded)) (joined parts) tail l h

-- an empty update draws nothing and changes nothing, also at the limit
pub empty-update : (s : Counted Stored) → Within s → update_outcome true s [] ≡ record { number = 0; state = s }
unfolding update_outcome tested updated
empty-update s h =
    let none : update_words s.held [] ≡ 0 = none-drawn s.held.width s.held.cnt 0 (omega (arith, holds-short h.0)) in
    let same : s.count + update_words s.held [] ≡ s.count = omega (arith, none) in
    rw (ap (λ (n : ℕ). leb n limit) same ∙ le-leb s.count limit h.1)
    (λ i. record { number = 0; state = record { held = h.0.packs i; count = same i } })
