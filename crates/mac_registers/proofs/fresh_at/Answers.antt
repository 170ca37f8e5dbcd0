-- `fresh_at` meets its contract: at each width the words of the list, in the words of a tag.
use mathlib.Core.Path.{◌≡◌}
use Prim.Native.Nat.{◌<◌, ◌^◌}
use native.Mathlib.Omega.{arith}
use borrow.Author.Rules.{rules}
use Rattle.mac_registers.proofs.Widths.{is-16}
use Rattle.mac_registers.proofs.Fresh.{fresh-16, fresh-4, fresh-8}
use Rattle.mac_registers.proofs.fresh_at.Goals as goal

pub overflow_cast-result : goal.overflow_cast-result
overflow_cast-result c = omega (arith, c.shared_slice_known-1.given c.args.at)

pub bounds-words-at-in_default : goal.bounds-words-at-in_default
bounds-words-at-in_default c =
    let wide : c.args.width ≡ 16 =
    is-16 c.args.width c.requires.width_fits c.in_default.in_default-own.rest.0.1 c.in_default.in_default-own.rest.1 in
    let w = wide in omega (arith, c.requires.words_fit)

pub bounds-words-at-in_default-2 : goal.bounds-words-at-in_default-2
bounds-words-at-in_default-2 c =
    let wide : c.args.width ≡ 16 =
    is-16 c.args.width c.requires.width_fits c.in_default.in_default-own.rest.0.1 c.in_default.in_default-own.rest.1 in
    let w = wide in omega (arith, c.requires.words_fit)

pub bounds-words-at-in_default-3 : goal.bounds-words-at-in_default-3
bounds-words-at-in_default-3 c =
    let wide : c.args.width ≡ 16 =
    is-16 c.args.width c.requires.width_fits c.in_default.in_default-own.rest.0.1 c.in_default.in_default-own.rest.1 in
    let w = wide in omega (arith, c.requires.words_fit)

pub bounds-words-at-in_default-4 : goal.bounds-words-at-in_default-4
bounds-words-at-in_default-4 c =
    let wide : c.args.width ≡ 16 =
    is-16 c.args.width c.requires.width_fits c.in_default.in_default-own.rest.0.1 c.in_default.in_default-own.rest.1 in
    let w = wide in omega (arith, c.requires.words_fit)

pub returns-in-4 : goal.returns-in-4
returns-in-4 c =
    let a = c.args in
    fresh-4 a.words.now (λ i. (c.shared_slice_known-1.given i).fits) a.width a.at c.in-4.is

pub returns-in-8 : goal.returns-in-8
returns-in-8 c =
    let a = c.args in
    fresh-8 a.words.now (λ i. (c.shared_slice_known-1.given i).fits) a.width a.at c.in-8.is _ c.joined.ensures

pub returns-in_default : goal.returns-in_default
returns-in_default c =
    let wide : c.args.width ≡ 16 =
    is-16 c.args.width c.requires.width_fits c.in_default.in_default-own.rest.0.1 c.in_default.in_default-own.rest.1 in
    let small : c.joined-in_default-2.result < 2 ^ 64 =
    search rules in
    let a = c.args in
    fresh-16 a.words.now (λ i. (c.shared_slice_known-1.given i).fits) a.width a.at wide _ _ small c.joined-in_default.ensures c.joined-in_default-2.ensures
