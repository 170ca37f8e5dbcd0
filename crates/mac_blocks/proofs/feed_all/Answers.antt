-- `blocks::feed_all` meets its contract: at place i the bytes before it have been taken in, with the words before i/4.
use mathlib.Core.Path.{◌≡◌}
use Prim.Native.Nat.{suc, ◌+◌, ◌/◌}
use native.Mathlib.Nat.{suc-mul}
use native.Mathlib.Omega.{arith}
use lib.ListN.{length}
use Rattle.mac_registers.proofs.Fresh.{fresh-lt}
use Rattle.mac_blocks.proofs.Ahead.{fed-all, fed-none, fed-on, room}
use Rattle.mac_blocks.proofs.feed_all.Goals as goal

pub loop-i-init : goal.loop-i-init
loop-i-init c =
    let a = c.args in
    (omega arith, (0, omega arith), λ σ h e. fed-none a.width a.key a.tag a.words.now a.part.now σ h e)

pub key_on-moved-requires-clause-tag_fits : goal.key_on-moved-requires-clause-tag_fits
key_on-moved-requires-clause-tag_fits c =
    fresh-lt c.args.words.now c.requires.width_fits (c.loop-i.i / 4) _ c.fresh_at-fresh.ensures

pub loop-i-preserved : goal.loop-i-preserved
loop-i-preserved c =
    let a = c.args in
    let l = c.loop-i in
    let n = l.invariant.1 in
    let m = c.requires.part_fits.1 in (
      (room c.requires.width_fits l.i (length a.part.now) n.0 m.0 n.1 m.1 c.loop-i-test.true).0,
      (suc n.0, omega (arith, n.1, suc-mul n.0 a.width)),
      λ σ h e. fed-on a.width a.key a.tag a.words.now a.part.now σ h e l.i l.fed.key l.fed.tag _ _ _ (l.invariant.2 σ h e) n m c.loop-i-test.true
          c.tag_with-sum.ensures c.fresh_at-fresh.ensures c.key_on-moved.ensures,
    )

-- the last block
pub returns-2 : goal.returns-2
returns-2 c =
    let a = c.args in
    let l = c.loop-i in
    let n = l.invariant.1 in
    let m = c.requires.part_fits.1 in
    let fits = room c.requires.width_fits l.i (length a.part.now) n.0 m.0 n.1 m.1 c.loop-i-test.true in
    let end : l.i + a.width ≡ length a.part.now = omega (arith, fits.0) in
    λ σ h e. fed-all a.width a.key a.tag a.words.now a.part.now σ h e (l.i + a.width) _ _
    (fed-on a.width a.key a.tag a.words.now a.part.now σ h e l.i l.fed.key l.fed.tag _ _ _ (l.invariant.2 σ h e) n m c.loop-i-test.true
    c.tag_with-sum.ensures c.fresh_at-fresh.ensures c.key_on-moved.ensures) end

-- no block
pub returns : goal.returns
returns c =
    let a = c.args in
    let end : c.loop-i.i ≡ length a.part.now = omega arith in
    λ σ h e. fed-all a.width a.key a.tag a.words.now a.part.now σ h e c.loop-i.i _ _ (c.loop-i.invariant.2 σ h e) end
