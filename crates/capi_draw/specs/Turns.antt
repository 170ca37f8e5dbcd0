-- Inner functions only: what a draw makes of a state, and the state that this leaves.
use Rattle.std.specs.Prelude.{◌+◌, ◌%◌}
use Rattle.capi_draw.specs.declared.Turn.{Turn}
use Rattle.standard.specs.Generator.{State, next, nonzero, shifted, v, word}
use Rattle.standard.specs.States.{Held}

-- the new cell, the registers and the word
abbrev pub turn_of : State → Turn
turn_of σ = record { cell = nonzero (v σ.cells); r1 = (next σ).R₁; r2 = (next σ).R₂; word = word σ }

-- the new cell behind the others, the registers, and the index one further, from 15 back to 0
abbrev pub put_into : Held → Turn → Held
put_into h t =
    record { meaning = record { cells = shifted h.meaning.cells t.cell; R₁ = t.r1; R₂ = t.r2 }; start = (h.start + 1) % 16 }
