-- Two updates in turn are accepted exactly where one over both would be, and leave the same state; by the words of each adding up.
use mathlib.Core.Bool.{Bool, true}
use mathlib.Core.List.{List, ◌++◌}
use mathlib.Core.Logic.{◌↔◌, ◌⊎◌, inl, inr, ⊎_elim}
use mathlib.Core.Path.{◌≡◌, refl, sym, ap, ap₂, ◌∙◌, subst}
use Prim.Native.Nat.{ℕ, ◌+◌, ◌-◌, ◌*◌, ◌<◌, ◌≤◌}
use native.Mathlib.Nat.{add_assoc, eq-zero-or-pos}
use native.Mathlib.Omega.{arith}
use lib.ListN.{length}
use borrow.Author.Tests.{lt-leb}
use Rattle.standard.specs.Integrity.{words_to_update}
use Rattle.standard.specs.Refusals.{accepted, spent, tested}
use Rattle.standard.specs.States.{Counted, Stored, formed, formed-128, limit, tag_formed}
use Rattle.mac_registers.specs.Inner.{Good}
use Rattle.mac_registers.specs.Stored.{packed, tagging_of}
use Rattle.mac_registers.specs.Tagging.{Tagging, updated}
use Rattle.mac_registers.proofs.Cutting.{updated-append}
use Rattle.mac_registers.proofs.Packed.{good-updated}
use Rattle.mac.specs.Calls.{Closing, Outcome, update_outcome, update_words}
use Rattle.mac.specs.Inner.{Within}
use Rattle.mac_laws.proofs.Counts.{words-in-turn}
use Rattle.mac_laws.proofs.Cuttings.{Kind, kind-128, kind-256, tag-formed, update-ok}
use Rattle.mac.proofs.Outcomes.{formed-four}
use Rattle.mac_laws.proofs.Runs.{update-accepted, update-is}

-- within the limit, or beyond
pub split : (n : ℕ) → (n ≤ limit) ⊎ (limit < n)
split n = ⊎_elim (λ e. inl (omega arith)) (λ p. inr (omega arith)) (eq-zero-or-pos (n - limit))

pub update-spent : (ok : Bool) (s : Counted Stored) (m : List ℕ) → ok ≡ true → limit < s.count + update_words s.held m → (update_outcome ok s m).number ≡ spent
unfolding update_outcome tested
update-spent ok s m e h = rw (e, lt-leb (s.count + update_words s.held m) limit h) refl

-- an update of a well-formed state is accepted, or refused by 16
pub update-number : (ok : Bool) (s : Counted Stored) (m : List ℕ) → ok ≡ true → ((update_outcome ok s m).number ≡ accepted) ⊎ ((update_outcome ok s m).number ≡ spent)
update-number ok s m e = ⊎_elim (λ h. inl (update-ok ok s m e h)) (λ h. inr (update-spent ok s m e h)) (split (s.count + update_words s.held m))

module _ {Tag : Type 0} {test : Stored → Bool} {finish_outcome : Counted Stored → List ℕ → ℕ → Closing Tag}
    {words : Stored → ℕ → ℕ} {close : ℕ → ℕ → ℕ} {w : ℕ} (k : Kind test finish_outcome words close w)
    (s : Counted Stored) (st : Tagging) (g : Good w st) (e : s.held ≡ packed w st) where
  abbrev pub after : List ℕ → Outcome
  after m = update_outcome (tag_formed test s) s m

  pub formed-here : s.count ≤ limit → tag_formed test s ≡ true
  formed-here h = tag-formed test s (ap test e ∙ k.passes st g) h

  pub words-here : (m : List ℕ) → update_words s.held m ≡ words_to_update (w * 8) (length st.waiting) (length m)
  unfolding packed
  words-here m = ap (λ (x : Stored). update_words x m) e

  -- the state after an accepted update
  pub next-held : (m : List ℕ) → (after m).number ≡ 0 → (after m).state.held ≡ packed w (updated (w * 8) st m)
  next-held m ok = update-is (tag_formed test s) k.width s m (after m) refl ok st e

  pub next-count : (m : List ℕ) → (after m).number ≡ 0 → (after m).state.count ≡ s.count + words_to_update (w * 8) (length st.waiting) (length m)
  next-count m ok = ap (λ (x : Counted Stored). x.count) (update-accepted (tag_formed test s) s m ok).2 ∙ ap (λ (n : ℕ). s.count + n) (words-here m)

module _ {Tag : Type 0} {test : Stored → Bool} {finish_outcome : Counted Stored → List ℕ → ℕ → Closing Tag}
    {words : Stored → ℕ → ℕ} {close : ℕ → ℕ → ℕ} {w : ℕ} (k : Kind test finish_outcome words close w)
    (s : Counted Stored) (st : Tagging) (g : Good w st) (e : s.held ≡ packed w st) (a b : List ℕ) where
  abbrev both : Outcome
  both = update_outcome (tag_formed test s) s (a ++ b)

  abbrev first : Outcome
  first = update_outcome (tag_formed test s) s a

  abbrev second : Outcome
  second = update_outcome (tag_formed test first.state) first.state b

  abbrev c : ℕ
  c = length st.waiting

  mid : Tagging
  mid = updated (w * 8) st a

  good-mid : Good w mid
  unfolding mid
  good-mid = good-updated a g

  -- the words of both are those of each
  sum : words_to_update (w * 8) c (length a) + words_to_update (w * 8) (length mid.waiting) (length b) ≡ words_to_update (w * 8) c (length (a ++ b))
  unfolding mid
  sum = words-in-turn st g.short a b

  module _ (ok : first.number ≡ 0) where
    held-mid : first.state.held ≡ packed w mid
    unfolding mid
    held-mid = next-held k s st g e a ok

    in_all : first.state.count + update_words first.state.held b ≡ s.count + update_words s.held (a ++ b)
    in_all =
        ap₂ (λ (x y : ℕ). x + y) (next-count k s st g e a ok) (words-here k first.state mid good-mid held-mid b)
        ∙ add_assoc s.count (words_to_update (w * 8) c (length a)) (words_to_update (w * 8) (length mid.waiting) (length b))
        ∙ ap (λ (n : ℕ). s.count + n) (sum ∙ sym (words-here k s st g e (a ++ b)))

  -- accepted, both or each
  pub two-accepted : (both.number ≡ 0) ↔ ((first.number ≡ 0) × (second.number ≡ 0))
  two-accepted = (
    λ ok. let left = (update-accepted (tag_formed test s) s (a ++ b) ok).1 in
        let one : first.number ≡ 0 =
        update-ok (tag_formed test s) s a (formed-here k s st g e (omega (arith, left))) (omega (arith, left, words-here k s st g e a, words-here k s st g e (a ++ b), sum)) in
        let all = in_all one in
        let fits : first.state.count + update_words first.state.held b ≤ limit = subst (λ (n : ℕ). n ≤ limit) (sym all) left in
        (one, update-ok (tag_formed test first.state) first.state b (formed-here k first.state mid good-mid (held-mid one) (omega (arith, fits))) fits),
    λ oks. let left = (update-accepted (tag_formed test first.state) first.state b oks.1).1 in
        update-ok (tag_formed test s) s (a ++ b) (update-accepted (tag_formed test s) s a oks.0).0
        (subst (λ (n : ℕ). n ≤ limit) (in_all oks.0) left),
  )

  -- and they leave one state
  pub two-states : both.number ≡ 0 → both.state ≡ second.state
  unfolding mid
  two-states ok =
      let oks = two-accepted.0 ok in
      let held : both.state.held ≡ second.state.held =
      next-held k s st g e (a ++ b) ok
      ∙ ap (packed w) (updated-append (w * 8) st a b)
      ∙ sym (next-held k first.state mid good-mid (held-mid oks.0) b oks.1) in
      let count : both.state.count ≡ second.state.count =
      ap (λ (x : Counted Stored). x.count) (update-accepted (tag_formed test s) s (a ++ b) ok).2
      ∙ sym (in_all oks.0)
      ∙ sym (ap (λ (x : Counted Stored). x.count) (update-accepted (tag_formed test first.state) first.state b oks.1).2) in
      λ i. record { held = held i; count = count i }

-- of every state within the limit, of ZUC-128 or EIA3 and of ZUC-256
abbrev InTurn : (Stored → Bool) → Counted Stored → List ℕ → List ℕ → Type 0
InTurn test s a b =
    let both : Outcome = update_outcome (tag_formed test s) s (a ++ b) in
    let first : Outcome = update_outcome (tag_formed test s) s a in
    let second : Outcome = update_outcome (tag_formed test first.state) first.state b in
    ((both.number ≡ 0) ↔ ((first.number ≡ 0) × (second.number ≡ 0))) × (both.number ≡ 0 → both.state ≡ second.state)

pub two-updates-128 : (s : Counted Stored) → Within s → tag_formed formed-128 s ≡ true → (a b : List ℕ) → InTurn formed-128 s a b
two-updates-128 s h ok a b =
    let four = formed-four s ok in
    let g : Good 4 (tagging_of s.held) = subst (λ (w : ℕ). Good w (tagging_of s.held)) four h.0.good in
    let e : s.held ≡ packed 4 (tagging_of s.held) = subst (λ (w : ℕ). s.held ≡ packed w (tagging_of s.held)) four (sym h.0.packs) in
    (two-accepted kind-128 s (tagging_of s.held) g e a b, two-states kind-128 s (tagging_of s.held) g e a b)

pub two-updates-256 : (s : Counted Stored) → Within s → (a b : List ℕ) → InTurn formed s a b
two-updates-256 s h a b =
    let k = kind-256 h.0.good.a-width in
    let g = h.0.good in
    let e = sym h.0.packs in
    (two-accepted k s (tagging_of s.held) g e a b, two-states k s (tagging_of s.held) g e a b)
