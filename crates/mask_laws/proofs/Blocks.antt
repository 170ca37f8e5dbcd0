-- A run of blocks in clean mode, each but the last full and of whole words, is one clean mask of the joined buffer: the same bytes and the
-- same last state, and accepted exactly if that one is. By the law of two buffers, and induction on the run.
use mathlib.Core.Bool.{true}
use mathlib.Core.List.{List, [], ◌∷◌, ◌++◌, append_assoc}
use mathlib.Core.Logic.{◌↔◌}
use mathlib.Core.Path.{◌≡◌, refl, sym, ap, ap₂, ◌∙◌, subst}
use Prim.Native.Nat.{ℕ, ◌+◌, ◌*◌, ◌/◌, ◌%◌}
use native.Mathlib.Nat.{zero-add}
use native.Mathlib.Omega.{arith}
use lib.ListN.{length, length-append}
use Rattle.standard.specs.Confidentiality.{mask_clean}
use Rattle.standard.specs.Generator.{word_at}
use Rattle.standard.specs.Notation.{ceil, joined}
use Rattle.standard.specs.Refusals.{accepted}
use Rattle.standard.specs.States.{Counted, Held, drawn_on, generator_formed}
use Rattle.standard.proofs.Held.{drawn-more, generator_formed-ready, ready-generator_formed, ready_moved, word_at-moved}
use Rattle.standard.proofs.Masking.{clean-append}
use Rattle.mask.specs.Outcome.{Outcome, clean_outcome, drawn}
use Rattle.mask_laws.specs.Runs.{BlocksMasked, Masks, WholeWords, more, none}
use Rattle.mask_laws.proofs.Accepted.{Passes, mask-exactly, mask_is}

-- one call: when it is accepted, and what it then is
module _ (g : Counted Held) (L : ℕ) (buffer : List ℕ) where
  abbrev answer : List ℕ
  answer = mask_clean (word_at g.held.meaning) L buffer

  pub clean-exactly : ((clean_outcome g L buffer).number ≡ accepted) ↔ Passes g (ceil L 32) L buffer answer
  clean-exactly = mask-exactly g (ceil L 32) L buffer answer

  pub clean_is : (clean_outcome g L buffer).number ≡ accepted → clean_outcome g L buffer ≡ drawn (ceil L 32) g answer
  clean_is = mask_is g (ceil L 32) L buffer answer

-- two calls: a block a, full and of whole words, then b from the state that it left
module _ (g : Counted Held) (a b : List ℕ) (L : ℕ) (whole : length a % 4 ≡ 0) where
  abbrev first : Outcome
  first = clean_outcome g (length a * 8) a

  abbrev second : Outcome
  second = clean_outcome first.state L b

  abbrev both : Outcome
  both = clean_outcome g (length a * 8 + L) (a ++ b)

  long : length (a ++ b) ≡ length a + length b
  long = length-append a b

  words : ceil (length a * 8 + L) 32 ≡ ceil (length a * 8) 32 + ceil L 32
  words = omega arith

  between : first.number ≡ accepted → first.state ≡ drawn_on (ceil (length a * 8) 32) g
  between ok = ap (λ (x : Outcome). x.state) (clean_is g (length a * 8) a ok)

  together : first.number ≡ accepted → second.number ≡ accepted → both.number ≡ accepted
  together ok then =
      let p = (clean-exactly g (length a * 8) a).0 ok in
      let q = (clean-exactly first.state L b).0 then in
      let n = ap (λ (x : Counted Held). x.count) (between ok) in
      (clean-exactly g (length a * 8 + L) (a ++ b)).1 (p.0, omega (arith, long, q.1), omega (arith, words, n, q.2))

  -- the state in between is well formed, so that what was accepted at once is accepted in turn
  apart : length g.held.meaning.cells ≡ 16 → both.number ≡ accepted → (first.number ≡ accepted) × (second.number ≡ accepted)
  apart full ok =
      let p = (clean-exactly g (length a * 8 + L) (a ++ b)).0 ok in
      let one : first.number ≡ accepted = (clean-exactly g (length a * 8) a).1 (p.0, omega arith, omega (arith, words, p.2)) in
      let r = ready_moved (ceil (length a * 8) 32) g.held (generator_formed-ready g full p.0).0 in
      let k = drawn_on (ceil (length a * 8) 32) g in
      let formed : generator_formed k ≡ true = ready-generator_formed {g = k} r (omega (arith, words, p.2)) in (
        one,
        subst (λ (x : Counted Held). (clean_outcome x L b).number ≡ accepted) (sym (between one))
            ((clean-exactly k L b).1 (formed, omega (arith, long, p.1), omega (arith, words, p.2))),
      )

  same : first.number ≡ accepted → second.number ≡ accepted → (both.buffer ≡ first.buffer ++ second.buffer) × (both.state ≡ second.state)
  same ok then =
      let n = ceil (length a * 8) 32 in
      let from = word_at g.held.meaning in
      let one = clean_is g (length a * 8) a ok in
      let two = clean_is first.state L b then in
      let all = clean_is g (length a * 8 + L) (a ++ b) (together ok then) in
      let at : n ≡ length a / 4 = omega arith in
      let on : word_at first.state.held.meaning ≡ (λ m. from (length a / 4 + m)) =
      ap (λ (x : Counted Held). word_at x.held.meaning) (between ok) ∙ (λ i m. (word_at-moved n m g.held ∙ ap (λ (j : ℕ). from (j + m)) at) i) in (
        ap (λ (x : Outcome). x.buffer) all
            ∙ clean-append from L a b whole
            ∙ sym (ap₂ ◌++◌ (ap (λ (x : Outcome). x.buffer) one) (ap (λ (x : Outcome). x.buffer) two ∙ ap (λ (w : ℕ → ℕ). mask_clean w L b) on)),
        ap (λ (x : Outcome). x.state) all
            ∙ ap (λ (m : ℕ). drawn_on m g) words
            ∙ sym (ap (λ (x : Outcome). x.state) two ∙ ap (drawn_on (ceil L 32)) (between ok) ∙ drawn-more n (ceil L 32) g),
      )

-- the joined buffer at once
abbrev pub at_once : Counted Held → List (List ℕ) → List ℕ → ℕ → Outcome
at_once g blocks last L = clean_outcome g (length (joined blocks) * 8 + L) (joined blocks ++ last)

-- with one block more in front
once_more : (g : Counted Held) (block : List ℕ) (blocks : List (List ℕ)) (last : List ℕ) (L : ℕ)
    → clean_outcome g (length block * 8 + (length (joined blocks) * 8 + L)) (block ++ (joined blocks ++ last)) ≡ at_once g (block ∷ blocks) last L
unfolding joined
once_more g block blocks last L =
    ap₂ (clean_outcome g) (omega (arith, length-append block (joined blocks))) (sym (append_assoc block (joined blocks) last))

once-none : (g : Counted Held) (last : List ℕ) (L : ℕ) → clean_outcome g L last ≡ at_once g [] last L
unfolding joined
once-none g last L = ap (λ (n : ℕ). clean_outcome g n last) (sym (zero-add L))

module _ (last : List ℕ) (L : ℕ) (end : Outcome) where
  run_is : {g between : Counted Held} {blocks masked : List (List ℕ)} → WholeWords blocks → Masks g blocks masked between → end ≡ clean_outcome between L last
      → end.number ≡ accepted
      → ((at_once g blocks last L).number ≡ accepted) × ((at_once g blocks last L).buffer ≡ joined masked ++ end.buffer) × ((at_once g blocks last L).state ≡ end.state)
  unfolding joined
  run_is {g} whole none closes ok =
      let e : at_once g [] last L ≡ end = sym (once-none g last L) ∙ sym closes in
      (ap (λ (x : Outcome). x.number) e ∙ ok, ap (λ (x : Outcome). x.buffer) e, ap (λ (x : Outcome). x.state) e)
  run_is {g} whole (more {block = block} {blocks = blocks} {masked = masked} o told taken rest) closes ok =
      let then = run_is whole.1 rest closes ok in
      let n : ℕ = length (joined blocks) * 8 + L in
      let l : List ℕ = joined blocks ++ last in
      let state = ap (λ (x : Outcome). x.state) told in
      let one = ap (λ (x : Outcome). x.number) (sym told) ∙ taken in
      let two = subst (λ (k : Counted Held). (clean_outcome k n l).number ≡ accepted) state then.0 in
      let s = same g block l n whole.0 one two in
      let e = once_more g block blocks last L in (
        ap (λ (x : Outcome). x.number) (sym e) ∙ together g block l n whole.0 one two,
        ap (λ (x : Outcome). x.buffer) (sym e)
            ∙ s.0
            ∙ ap₂ ◌++◌ (ap (λ (x : Outcome). x.buffer) (sym told)) (ap (λ (k : Counted Held). (clean_outcome k n l).buffer) (sym state) ∙ then.1)
            ∙ sym (append_assoc o.buffer (joined masked) end.buffer),
        ap (λ (x : Outcome). x.state) (sym e) ∙ s.1 ∙ ap (λ (k : Counted Held). (clean_outcome k n l).state) (sym state) ∙ then.2,
      )

-- THE RUN: blocks masked in turn, and the joined buffer masked at once, in clean mode, give the same bytes and the same last state
module _ (g : Counted Held) (blocks : List (List ℕ)) (whole : WholeWords blocks) (last : List ℕ) (L : ℕ) (o : Outcome) (told : o ≡ at_once g blocks last L) where
  pub blocks-as-one : {masked : List (List ℕ)} {end : Outcome} → BlocksMasked g blocks masked last L end
      → (o.number ≡ accepted) × (o.buffer ≡ joined masked ++ end.buffer) × (o.state ≡ end.state)
  blocks-as-one {end = end} r =
      let is = run_is last L end whole r.masks r.closes r.closed in
      (ap (λ (x : Outcome). x.number) told ∙ is.0, ap (λ (x : Outcome). x.buffer) told ∙ is.1, ap (λ (x : Outcome). x.state) told ∙ is.2)

-- and every call of the run is accepted if that one is: the state is a struct's, of sixteen cells
runs : (g : Counted Held) → length g.held.meaning.cells ≡ 16 → (blocks : List (List ℕ)) → WholeWords blocks → (last : List ℕ) (L : ℕ)
    → (at_once g blocks last L).number ≡ accepted → (masked : List (List ℕ)) × (end : Outcome) × BlocksMasked g blocks masked last L end
runs g full [] whole last L ok =
    let e = once-none g last L in
    ([], clean_outcome g L last, record { between = g; masks = none; closes = refl; closed = ap (λ (x : Outcome). x.number) e ∙ ok })
runs g full (block ∷ blocks) whole last L ok =
    let l : List ℕ = joined blocks ++ last in
    let n : ℕ = length (joined blocks) * 8 + L in
    let two = apart g block l n whole.0 full (ap (λ (x : Outcome). x.number) (once_more g block blocks last L) ∙ ok) in
    let o : Outcome = clean_outcome g (length block * 8) block in
    let after = between g block l n whole.0 two.0 in
    let cells = (ready_moved (ceil (length block * 8) 32) g.held (generator_formed-ready g full ((clean-exactly g (length block * 8) block).0 two.0).0).0).cells in
    let rest = runs o.state (ap (λ (k : Counted Held). length k.held.meaning.cells) after ∙ cells.full) blocks whole.1 last L two.1 in
    (o.buffer ∷ rest.0, rest.1, record { between = rest.2.between; masks = more o refl two.0 rest.2.masks; closes = rest.2.closes; closed = rest.2.closed })

module _ (g : Counted Held) (full : length g.held.meaning.cells ≡ 16) (blocks : List (List ℕ)) (whole : WholeWords blocks) (last : List ℕ) (L : ℕ) where
  pub blocks-accepted : ((at_once g blocks last L).number ≡ accepted) ↔ ((masked : List (List ℕ)) × (end : Outcome) × BlocksMasked g blocks masked last L end)
  blocks-accepted = (runs g full blocks whole last L, λ r. (blocks-as-one g blocks whole last L (at_once g blocks last L) refl r.2).0)
