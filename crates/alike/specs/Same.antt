-- Requests 2026-08 and 2026-09: when two outcomes agree, and what it is for a call to answer alike states alike.
use Rattle.std.specs.Prelude.{◌≡◌}
use Rattle.keystream.specs.Draws.{DrawOutcome, FillOutcome}
use Rattle.mac.specs.Calls as mac
use Rattle.mask.specs.Outcome as mask
use Rattle.alike.specs.Alike.{AlikeGenerator, AlikeTag}

-- all is equal but the states, and those are alike: of a draw, a buffer of words, a mask, an update, a closing
pub record AgreeDraw (o o' : DrawOutcome) : Type 0 where
  pub number : o.number ≡ o'.number
  pub word : o.word ≡ o'.word
  pub state : AlikeGenerator o.state o'.state

pub record AgreeFill (o o' : FillOutcome) : Type 0 where
  pub number : o.number ≡ o'.number
  pub state : AlikeGenerator o.state o'.state
  pub buffer : o.buffer ≡ o'.buffer

pub record AgreeMask (o o' : mask.Outcome) : Type 0 where
  pub number : o.number ≡ o'.number
  pub count : o.count ≡ o'.count
  pub state : AlikeGenerator o.state o'.state
  pub buffer : o.buffer ≡ o'.buffer

pub record AgreeUpdate (o o' : mac.Outcome) : Type 0 where
  pub number : o.number ≡ o'.number
  pub state : AlikeTag o.state o'.state

pub record AgreeClosing {Tag : Type 0} (o o' : mac.Closing Tag) : Type 0 where
  pub number : o.number ≡ o'.number
  pub tag : o.tag ≡ o'.tag
  pub state : AlikeTag o.state o'.state

-- Any two calls of one function, at any lifetimes κs: where the states that they are lent are alike and the rest of what they are passed is
-- equal, all that is told of their results r, and of the buffers s at exit, agrees
abbrev pub SameAnswers : {K : Type 0} {A R S : K → Type 0} {St Rest O : Type 0} → (St → St → Type 0) → (O → O → Type 0)
    → ((κs : K) → A κs → R κs → S κs → Type 0) → (lent : (κs : K) → A κs → St) (rest : (κs : K) → A κs → Rest) (told : (κs : K) → R κs → S κs → O) → Type 0
SameAnswers {K} {A} {R} {S} Like Agrees Post lent rest told =
    (κs κs' : K) (a : A κs) (a' : A κs') (r : R κs) (r' : R κs') (s : S κs) (s' : S κs')
    → Like (lent κs a) (lent κs' a') → rest κs a ≡ rest κs' a' → Post κs a r s → Post κs' a' r' s' → Agrees (told κs r s) (told κs' r' s')
