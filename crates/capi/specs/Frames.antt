-- What the C function of a reader gives: the inner call's outcome, its fields as four numbers.
use Rattle.std.specs.Prelude.{List, [], ◌∷◌, ℕ}
use Rattle.frame.specs.Outcome.{Readout}

pub record ReadArray : Type 0 where
  pub number : ℕ
  pub fields : List ℕ
  pub frame : List ℕ

abbrev pub read_array : Readout → ReadArray
read_array o = record { number = o.number; fields = o.fields.COUNT ∷ o.fields.bearer ∷ o.fields.direction ∷ o.fields.L ∷ []; frame = o.frame }
