-- `draw_in` is a draw of the state in the array: what `turned` makes, put in place, is the next state.
use mathlib.Core.List.{List}
use mathlib.Core.Path.{◌≡◌, ◌∙◌, ap, refl}
use Prim.Native.Nat.{ℕ, ◌+◌}
use Rattle.capi_arrays.specs.Arrays.{array_of, held_from, held_in}
use Rattle.capi_draw.specs.Turns.{put_into, turn_of}
use Rattle.capi_draw.specs.declared.Turn.{Turn}
use Rattle.standard.specs.Generator.{F, LFSRWithWorkMode, next, work_step}
use Rattle.standard.specs.States.{Held, moved}
use borrow.Author.Rules.{rules}
use Rattle.capi_draw.proofs.draw_in.Goals as goal

moves : (h : Held) → put_into h (turn_of h.meaning) ≡ moved 1 h
unfolding moved next F work_step LFSRWithWorkMode
moves h = refl

pub overflow_cast-i : goal.overflow_cast-i
unfolding held_in held_from
overflow_cast-i c = let l = c.requires.ready.start in search rules

pub turned-t-requires : goal.turned-t-requires
unfolding held_in
turned-t-requires c = c.requires.ready

pub put-requires : goal.put-requires
unfolding held_in held_from
put-requires c = (search rules, c.requires.ready.start, c.requires.left)

pub returns : goal.returns
unfolding held_in
returns c =
    let a : List ℕ = c.args.a.now in
    let h : Held = (held_in a).held in
    let after : Held → List ℕ = λ k. array_of (record { held = k; count = (held_in a).count + 1 }) in
    record { word = ap (λ (r : Turn). r.word) c.turned-t.ensures; array = c.put.ensures ∙ ap (λ (r : Turn). after (put_into h r)) c.turned-t.ensures ∙ ap after (moves h) }
