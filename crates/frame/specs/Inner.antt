-- Inner functions only: what they ask of a key, fields and a body.
use Rattle.std.specs.Prelude.{true, List, ◌≡◌, ℕ, ◌-◌, ◌*◌, ◌^◌, ◌<◌, ◌≤◌, length}
use Rattle.standard.specs.Frame.{Fields}
use Rattle.standard.specs.Refusals.{field_test}

-- neither EEA3 nor EIA3 refuses these
pub record Sealable (key : List ℕ) (f : Fields) (body : List ℕ) : Type 0 where
  pub key-bytes : length key ≡ 16
  pub fields : (field_test f.bearer f.direction).passes ≡ true
  pub fits : f.L ≤ length body * 8
  pub low : f.L < 2 ^ 32

-- past a writer's tests
pub record Taken (CK IK : List ℕ) (f : Fields) (frame : List ℕ) : Type 0 where
  pub ck : length CK ≡ 16
  pub ik : length IK ≡ 16
  pub fields : (field_test f.bearer f.direction).passes ≡ true
  pub long : 17 ≤ length frame
  pub short : length frame ≤ 65538
  pub fits : f.L ≤ (length frame - 17) * 8
  pub low : f.L < 2 ^ 32
