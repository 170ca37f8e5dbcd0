-- Any two outcomes that the promise of a call allows are equal, and none of the calls asks anything: number and tag tell an answer.
use mathlib.Core.List.{List}
use mathlib.Core.Path.{◌≡◌, ◌∙◌, ap, refl, sym}
use Prim.Native.Nat.{ℕ}
use Rattle.standard.proofs.Promise.{AsksNothing, Tight}
use Rattle.std.specs.Prelude.{Err, Ok, Result, replicate, ⊤}
use Rattle.std.specs.Result.{result_unwrap_or}
use Rattle.refusals.proofs.Once.{answer-once}
use Rattle.refusals.specs.declared.Refusal.{Refusal}
use Rattle.refusals.specs.Numbers.{answer_number, refusal_number}
use Rattle.zuc.proofs.Turning.{read-once}
use Rattle.zuc.specs.Reading.{cells_from}
use Rattle.mac_registers.specs.declared.TagOn.{TagOn}
use Rattle.zuc.specs.declared.Zuc.{Zuc}
use Rattle.standard.specs.States.{Counted, Stored, from_start, zero_stored, zeros}
use Rattle.mac_registers.specs.Stored.{stored_of}
use Rattle.mac.proofs.zuc128.new.Reads as zuc128-new
use Rattle.mac.proofs.eia3.new.Reads as eia3-new
use Rattle.mac.proofs.eia3.new_strict.Reads as eia3-new-strict
use Rattle.mac.proofs.zuc256.new.Reads as zuc256-new
use Rattle.mac.proofs.zuc128.update.Reads as zuc128-update
use Rattle.mac.proofs.zuc256.update.Reads as zuc256-update
use Rattle.mac.proofs.zuc128.finish.Reads as zuc128-finish
use Rattle.mac.proofs.zuc256.finish.Reads as zuc256-finish
use Rattle.mac.proofs.zuc128.compute.Reads as zuc128-compute
use Rattle.mac.proofs.eia3.compute.Reads as eia3-compute
use Rattle.mac.proofs.eia3.compute_strict.Reads as eia3-compute-strict
use Rattle.mac.proofs.zuc256.compute.Reads as zuc256-compute
use Rattle.mac.specs.declared.Mac128.{Mac128}
use Rattle.mac.specs.declared.Mac256.{Mac256}
use Rattle.mac.specs.Reading.{tagged_of, tagged_of-128, tagged_of-256}
use Rattle.mac.specs.Calls.{Closing, Once, Outcome, finish_told, no_words, once_told, tag_told, update_told}

-- a struct is known by its reading
state-back : {s s' : TagOn Zuc} → stored_of s ≡ stored_of s' → s ≡ s'
state-back {s} {s'} e =
    λ i. record {
      g = read-once s.g s'.g (ap (λ (x : Stored). x.generator) e) i;
      key = (e i).key;
      tag = (e i).tag;
      rem = (e i).rem;
      cnt = (e i).cnt;
      width = (e i).width;
    }

counted-back : {s s' : TagOn Zuc} {n n' : ℕ} → tagged_of s n ≡ tagged_of s' n' → ◌≡◌ {A = TagOn Zuc × ℕ} (s, n) (s', n')
counted-back e = λ i. (state-back (λ j. (e j).held) i, (e i).count)

mac-128 : (m m' : Mac128) → tagged_of-128 m ≡ tagged_of-128 m' → m ≡ m'
mac-128 m m' e = λ i. let x = counted-back e i in record { state = x.0; count = x.1 }

mac-256 : (m m' : Mac256) → tagged_of-256 m ≡ tagged_of-256 m' → m ≡ m'
mac-256 m m' e = λ i. let x = counted-back e i in record { state = x.0; count = x.1 }

-- what is told of a start tells what is returned: a refused one is read as zeros
no_state : TagOn Zuc
no_state =
    record { g = record { s = replicate 16 0; r1 = 0; r2 = 0; start = 0 }; key = replicate 4 0; tag = replicate 2 0; rem = replicate 16 0; cnt = 0; width = 0 }

module _ {Mac : Type 0} (read : Mac → Counted Stored) (none : Mac) (zero : read none ≡ from_start zero_stored) (back : (m m' : Mac) → read m ≡ read m' → m ≡ m') where
  told_is : (r : Result Mac Refusal) → tag_told read r ≡ record { number = answer_number r; state = read (result_unwrap_or r none) }
  told_is (Ok mac) = refl
  told_is (Err refusal) = λ i. record { number = refusal_number refusal; state = sym zero i }

  start-tight : (r r' : Result Mac Refusal) → tag_told read r ≡ tag_told read r' → r ≡ r'
  start-tight r r' e =
      let told = sym (told_is r) ∙ e ∙ told_is r' in
      answer-once none r r' (ap (λ (o : Outcome). o.number) told) (back _ _ (ap (λ (o : Outcome). o.state) told))

  -- an update, a closing
  update-tight : (r r' : Result ⊤ Refusal) (m m' : Mac) → update_told r (read m) ≡ update_told r' (read m') → ◌≡◌ {A = Result ⊤ Refusal × Mac} (r, m) (r', m')
  update-tight r r' m m' e =
      λ i. (answer-once tt r r' (ap (λ (o : Outcome). o.number) e) refl i, back m m' (ap (λ (o : Outcome). o.state) e) i)

  finish-tight : {Tag : Type 0} (untold : Tag) (r r' : Result Tag Refusal) (m m' : Mac) → finish_told untold r (read m) ≡ finish_told untold r' (read m')
      → ◌≡◌ {A = Result Tag Refusal × Mac} (r, m) (r', m')
  finish-tight {Tag} untold r r' m m' e =
      λ i. (
        answer-once untold r r' (ap (λ (o : Closing Tag). o.number) e) (ap (λ (o : Closing Tag). o.tag) e) i,
        back m m' (ap (λ (o : Closing Tag). o.state) e) i,
      )

once-tight : {Tag : Type 0} (none : Tag) (r r' : Result Tag Refusal) → once_told none r ≡ once_told none r' → r ≡ r'
once-tight {Tag} none r r' e = answer-once none r r' (ap (λ (o : Once Tag). o.number) e) (ap (λ (o : Once Tag). o.tag) e)

-- of either type
abbrev none-128 : Mac128
none-128 = record { state = no_state; count = 0 }

abbrev none-256 : Mac256
none-256 = record { state = no_state; count = 0 }

zero-state : tagged_of no_state 0 ≡ from_start zero_stored
unfolding no_state zero_stored zeros cells_from
zero-state = refl

-- starts
pub tight-zuc128-new : Tight zuc128-new.Post (λ κs r s. r)
tight-zuc128-new κs a r r' s s' p q = start-tight tagged_of-128 none-128 zero-state mac-128 r r' (p ∙ sym q)

pub asks-nothing-zuc128-new : AsksNothing zuc128-new.Pre
asks-nothing-zuc128-new κs a = tt

pub tight-eia3-new : Tight eia3-new.Post (λ κs r s. r)
tight-eia3-new κs a r r' s s' p q = start-tight tagged_of-128 none-128 zero-state mac-128 r r' (p ∙ sym q)

pub asks-nothing-eia3-new : AsksNothing eia3-new.Pre
asks-nothing-eia3-new κs a = tt

pub tight-eia3-new-strict : Tight eia3-new-strict.Post (λ κs r s. r)
tight-eia3-new-strict κs a r r' s s' p q = start-tight tagged_of-128 none-128 zero-state mac-128 r r' (p ∙ sym q)

pub asks-nothing-eia3-new-strict : AsksNothing eia3-new-strict.Pre
asks-nothing-eia3-new-strict κs a = tt

pub tight-zuc256-new : Tight zuc256-new.Post (λ κs r s. r)
tight-zuc256-new κs a r r' s s' p q = start-tight tagged_of-256 none-256 zero-state mac-256 r r' (p ∙ sym q)

pub asks-nothing-zuc256-new : AsksNothing zuc256-new.Pre
asks-nothing-zuc256-new κs a = tt

-- updates
pub tight-zuc128-update : Tight {Seen = Result ⊤ Refusal × Mac128} zuc128-update.Post (λ κs r s. (r, s.0.now))
tight-zuc128-update κs a r r' s s' p q = update-tight tagged_of-128 none-128 zero-state mac-128 r r' s.0.now s'.0.now (p ∙ sym q)

pub asks-nothing-zuc128-update : AsksNothing zuc128-update.Pre
asks-nothing-zuc128-update κs a = tt

pub tight-zuc256-update : Tight {Seen = Result ⊤ Refusal × Mac256} zuc256-update.Post (λ κs r s. (r, s.0.now))
tight-zuc256-update κs a r r' s s' p q = update-tight tagged_of-256 none-256 zero-state mac-256 r r' s.0.now s'.0.now (p ∙ sym q)

pub asks-nothing-zuc256-update : AsksNothing zuc256-update.Pre
asks-nothing-zuc256-update κs a = tt

-- closings
pub tight-zuc128-finish : Tight {Seen = Result ℕ Refusal × Mac128} zuc128-finish.Post (λ κs r s. (r, s.0.now))
tight-zuc128-finish κs a r r' s s' p q = finish-tight tagged_of-128 none-128 zero-state mac-128 0 r r' s.0.now s'.0.now (p ∙ sym q)

pub asks-nothing-zuc128-finish : AsksNothing zuc128-finish.Pre
asks-nothing-zuc128-finish κs a = tt

pub tight-zuc256-finish : Tight {Seen = Result (List ℕ) Refusal × Mac256} zuc256-finish.Post (λ κs r s. (r, s.0.now))
tight-zuc256-finish κs a r r' s s' p q = finish-tight tagged_of-256 none-256 zero-state mac-256 no_words r r' s.0.now s'.0.now (p ∙ sym q)

pub asks-nothing-zuc256-finish : AsksNothing zuc256-finish.Pre
asks-nothing-zuc256-finish κs a = tt

-- one-shots
pub tight-zuc128-compute : Tight zuc128-compute.Post (λ κs r s. r)
tight-zuc128-compute κs a r r' s s' p q = once-tight 0 r r' (p ∙ sym q)

pub asks-nothing-zuc128-compute : AsksNothing zuc128-compute.Pre
asks-nothing-zuc128-compute κs a = tt

pub tight-eia3-compute : Tight eia3-compute.Post (λ κs r s. r)
tight-eia3-compute κs a r r' s s' p q = once-tight 0 r r' (p ∙ sym q)

pub asks-nothing-eia3-compute : AsksNothing eia3-compute.Pre
asks-nothing-eia3-compute κs a = tt

pub tight-eia3-compute-strict : Tight eia3-compute-strict.Post (λ κs r s. r)
tight-eia3-compute-strict κs a r r' s s' p q = once-tight 0 r r' (p ∙ sym q)

pub asks-nothing-eia3-compute-strict : AsksNothing eia3-compute-strict.Pre
asks-nothing-eia3-compute-strict κs a = tt

pub tight-zuc256-compute : Tight zuc256-compute.Post (λ κs r s. r)
tight-zuc256-compute κs a r r' s s' p q = once-tight no_words r r' (p ∙ sym q)

pub asks-nothing-zuc256-compute : AsksNothing zuc256-compute.Pre
asks-nothing-zuc256-compute κs a = tt
