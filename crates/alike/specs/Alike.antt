-- Requests 2026-08 and 2026-09: when two states are equal in meaning, and the turns of one state.
use Rattle.std.specs.Prelude.{◌≡◌, ℕ, ◌<◌, length}
use Rattle.standard.specs.Generator.{State}
use Rattle.standard.specs.States.{Counted, Held, Stored}
use Rattle.zuc.specs.Reading.{places_of}
use Rattle.zuc.specs.declared.Zuc.{Zuc}

-- "States are now equal in meaning when their cells agree read from the start index", the sixteen of them, and R1 and R2 beside them. An index
-- above 15 has no such reading: it is refused by 4
pub record Alike (h k : Held) : Type 0 where
  pub meaning : h.meaning ≡ k.meaning
  pub full : length h.meaning.cells ≡ 16
  pub start : h.start < 16
  pub start' : k.start < 16

-- states of tags: their generators are, and all else is equal
pub record AlikeStored (s t : Stored) : Type 0 where
  pub generator : Alike s.generator t.generator
  pub key : s.key ≡ t.key
  pub tag : s.tag ≡ t.tag
  pub rem : s.rem ≡ t.rem
  pub cnt : s.cnt ≡ t.cnt
  pub width : s.width ≡ t.width

-- Request 2026-09: a state carries how many words its start has drawn. What two hold is alike, and they have drawn as many
pub record AlikeCounted {A : Type 0} (Like : A → A → Type 0) (g k : Counted A) : Type 0 where
  pub held : Like g.held k.held
  pub count : g.count ≡ k.count

-- of generators, and of tags
abbrev pub AlikeGenerator : Counted Held → Counted Held → Type 0
AlikeGenerator = AlikeCounted Alike

abbrev pub AlikeTag : Counted Stored → Counted Stored → Type 0
AlikeTag = AlikeCounted AlikeStored

-- one state, turned so that its cells start at place i: as the struct of the code
abbrev pub turned : ℕ → State → Zuc
turned i σ = record { s = places_of i σ.cells; r1 = σ.R₁; r2 = σ.R₂; start = i }
