-- `zero_from`: the places from one on are filled with zeros, and those before it stay.
use lib.ListN.{drop, get_or, length, length-append, length-drop, length-take, replicate, take}
use mathlib.Core.List.{List}
use mathlib.Core.Path.{◌≡◌, sym, ap, ◌∙◌}
use native.Mathlib.Omega.{arith}
use Prim.Native.Nat.{ℕ, ◌+◌, ◌-◌}
use Rattle.std.proofs.lemmas.List.{get_or-replicate}
use Rattle.standard.proofs.Each.{from-lent, from-same, from_end, is-each}
use Rattle.mask.proofs.Clear.{zeroed-before, zeroed-past}
use Rattle.mask.specs.Inner.{zeroed}
use Rattle.mask.proofs.zero_from.Goals as goal

pub returns : goal.returns
returns c =
    let l = c.args.buf.now in
    let i : ℕ = c.args.from in
    let k : ℕ = length l - i in
    let part : List ℕ = take k (drop i l) in
    let new : List ℕ = c.fill.new.self in
    let filled : new ≡ replicate (length part) 0 = c.fill.ensures.after (λ y e. e) in
    let long : length new ≡ length part = c.fill.ensures.len in
    sym (from_end (zeroed i) (i + k) _ (simp (length-append, long, length-take, length-drop) (omega arith)))
    ∙ from-lent (zeroed i) i k l new (omega arith)
    (is-each (zeroed i) i part new long
    (λ j h. ap (λ (m : List ℕ). get_or m j 0) filled ∙ get_or-replicate (length part) j 0 0 h ∙ zeroed-past i (i + j) (get_or part j 0) (omega arith)))
    ∙ from-same _ _ _ (omega arith) (zeroed-before _)
