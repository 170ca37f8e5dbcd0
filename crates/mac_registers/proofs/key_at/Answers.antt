-- `key_at` meets its contract: two halves of the key pair are moved in.
use native.Mathlib.Omega.{arith}
use Rattle.mac_registers.proofs.Fresh.{fresh-lt, key-at-is}
use Rattle.mac_registers.proofs.key_at.Goals as goal

pub fresh_at-high-requires : goal.fresh_at-high-requires
fresh_at-high-requires c =
    record { width_fits = c.requires.width_fits; words_fit = omega (arith, c.requires.words_fit) }

pub key_on-half-requires : goal.key_on-half-requires
key_on-half-requires c =
    record { width_fits = c.requires.width_fits; tag_fits = fresh-lt c.args.words.now c.requires.width_fits c.args.at _ c.fresh_at-high.ensures }

pub fresh_at-low-requires : goal.fresh_at-low-requires
fresh_at-low-requires c =
    record { width_fits = c.requires.width_fits; words_fit = c.requires.words_fit }

pub key_on-requires : goal.key_on-requires
key_on-requires c =
    record { width_fits = c.requires.width_fits; tag_fits = fresh-lt c.args.words.now c.requires.width_fits _ _ c.fresh_at-low.ensures }

pub returns : goal.returns
returns c =
    key-at-is c.args.words.now c.requires.width_fits c.args.at _ _ _ _ c.fresh_at-high.ensures c.key_on-half.ensures c.fresh_at-low.ensures c.key_on.ensures
