-- `parts_32` takes in part by part: at place i the run and what the loop carries stand for the state after the bytes up to i.
use lib.ListN.{drop, take}
use lib.Seq.{take_all}
use mathlib.Core.List.{List}
use mathlib.Core.Path.{◌≡◌, refl, ◌∙◌, ap}
use native.Mathlib.Omega.{arith}
use Prim.Native.Nat.{ℕ, ◌+◌, ◌-◌, ◌≤◌}
use Rattle.mac_registers.specs.Tagging.{Tagging, updated}
use Rattle.mac_registers.proofs.Cutting.{updated-on}
use Rattle.mac_narrow.specs.InnerNarrow.{Tagged}
use Rattle.mac_narrow.specs.declared.Narrow.{Narrow}
use Rattle.mac_narrow.proofs.parts_32.Goals as goal

-- a part more
on : {run' pairs' : List ℕ} {s' : Narrow} {old : Tagging} (st : Tagging) (m : List ℕ) (i e at : ℕ) → i ≤ e → take e m ≡ take at m
    → old ≡ updated 32 st (take i m) → Tagged run' pairs' s' (updated 32 old (take (e - i) (drop i m))) → Tagged run' pairs' s' (updated 32 st (take at m))
on st m i e at h q p f =
    record {
      laid = f.laid;
      low = f.low;
      start = f.start;
      tagging =
          f.tagging
          ∙ ap (λ (x : Tagging). updated 32 x (take (e - i) (drop i m))) p
          ∙ updated-on 32 st m i e h
          ∙ ap (updated 32 st) q;
    }

pub loop-i-init : goal.loop-i-init
unfolding updated
loop-i-init c =
    let p = c.requires in
    (omega arith, refl, record { laid = p.laid; low = p.halves.0; start = p.halves.1; tagging = refl })

pub loop-i-preserved : goal.loop-i-preserved
loop-i-preserved c =
    let l = c.loop-i in
    let e : ℕ = l.i + c.min.result in
    let next : e ≡ l.i + 256 = omega arith in
    (omega arith, omega arith, on _ c.args.part.now l.i e _ (omega arith) (ap (λ (k : ℕ). take k c.args.part.now) next) l.invariant.2.tagging c.words_32-s.ensures)

-- the last part
pub returns-2 : goal.returns-2
returns-2 c =
    let l = c.loop-i in
    let m = c.args.part.now in
    let e : ℕ = l.i + c.min.result in
    let f = c.words_32-s.ensures in
    let last = on _ m l.i e e (omega arith) refl l.invariant.2.tagging f in
    record { laid = last.laid; low = last.low; start = last.start; tagging = last.tagging ∙ ap (updated 32 _) (take_all e m (omega arith)) }

pub returns : goal.returns
returns c =
    let l = c.loop-i in
    let t = l.invariant.2 in
    record { laid = t.laid; low = t.low; start = t.start; tagging = t.tagging ∙ ap (updated 32 _) (take_all l.i c.args.part.now (omega arith)) }
