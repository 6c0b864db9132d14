-- `carriage::row_numbers::numbers_of` meets its contract: each arm is its row of the printed table.
-- Assumes nothing.
use Rattle.std.proofs.Common.{◌≡◌, ℕ, ◌≤◌, [], sym, ap, arith}
use lib.ListN.{get_or-eq_default}
use Rattle.prelude.specs.Build.{build}
use Rattle.carriage.specs.Carriage.{samples_in, rows, row_of, carries, none}
use Rattle.carriage.specs.RowNumbers.{numbers_of}
use Rattle.carriage.proofs.row_numbers.numbers_of.Goals as goal

row : (k t : ℕ) → t ≡ k → numbers_of k ≡ numbers_of t
row k t e = ap numbers_of (sym e)

above : (t : ℕ) → 36 ≤ t → numbers_of 36 ≡ numbers_of t
unfolding numbers_of rows
above t h =
    let e : row_of t ≡ carries 36 [] none none = get_or-eq_default rows (carries 36 [] none none) h in
    rw e

pub returns-in-0 : goal.returns-in-0
unfolding numbers_of samples_in rows build
returns-in-0 c = row 0 c.args.t c.in-0.is

pub returns-in-1 : goal.returns-in-1
unfolding numbers_of samples_in rows build
returns-in-1 c = row 1 c.args.t c.in-1.is

pub returns-in-2 : goal.returns-in-2
unfolding numbers_of samples_in rows build
returns-in-2 c = row 2 c.args.t c.in-2.is

pub returns-in-3 : goal.returns-in-3
unfolding numbers_of samples_in rows build
returns-in-3 c = row 3 c.args.t c.in-3.is

pub returns-in-4 : goal.returns-in-4
unfolding numbers_of samples_in rows build
returns-in-4 c = row 4 c.args.t c.in-4.is

pub returns-in-5 : goal.returns-in-5
unfolding numbers_of samples_in rows build
returns-in-5 c = row 5 c.args.t c.in-5.is

pub returns-in-6 : goal.returns-in-6
unfolding numbers_of samples_in rows build
returns-in-6 c = row 6 c.args.t c.in-6.is

pub returns-in-7 : goal.returns-in-7
unfolding numbers_of samples_in rows build
returns-in-7 c = row 7 c.args.t c.in-7.is

pub returns-in-8 : goal.returns-in-8
unfolding numbers_of samples_in rows build
returns-in-8 c = row 8 c.args.t c.in-8.is

pub returns-in-9 : goal.returns-in-9
unfolding numbers_of samples_in rows build
returns-in-9 c = row 9 c.args.t c.in-9.is

pub returns-in-10 : goal.returns-in-10
unfolding numbers_of samples_in rows build
returns-in-10 c = row 10 c.args.t c.in-10.is

pub returns-in-11 : goal.returns-in-11
unfolding numbers_of samples_in rows build
returns-in-11 c = row 11 c.args.t c.in-11.is

pub returns-in-12 : goal.returns-in-12
unfolding numbers_of samples_in rows build
returns-in-12 c = row 12 c.args.t c.in-12.is

pub returns-in-13 : goal.returns-in-13
unfolding numbers_of samples_in rows build
returns-in-13 c = row 13 c.args.t c.in-13.is

pub returns-in-14 : goal.returns-in-14
unfolding numbers_of samples_in rows build
returns-in-14 c = row 14 c.args.t c.in-14.is

pub returns-in-15 : goal.returns-in-15
unfolding numbers_of samples_in rows build
returns-in-15 c = row 15 c.args.t c.in-15.is

pub returns-in-16 : goal.returns-in-16
unfolding numbers_of samples_in rows build
returns-in-16 c = row 16 c.args.t c.in-16.is

pub returns-in-17 : goal.returns-in-17
unfolding numbers_of samples_in rows build
returns-in-17 c = row 17 c.args.t c.in-17.is

pub returns-in-18 : goal.returns-in-18
unfolding numbers_of samples_in rows build
returns-in-18 c = row 18 c.args.t c.in-18.is

pub returns-in-19 : goal.returns-in-19
unfolding numbers_of samples_in rows build
returns-in-19 c = row 19 c.args.t c.in-19.is

pub returns-in-20 : goal.returns-in-20
unfolding numbers_of samples_in rows build
returns-in-20 c = row 20 c.args.t c.in-20.is

pub returns-in-21 : goal.returns-in-21
unfolding numbers_of samples_in rows build
returns-in-21 c = row 21 c.args.t c.in-21.is

pub returns-in-22 : goal.returns-in-22
unfolding numbers_of samples_in rows build
returns-in-22 c = row 22 c.args.t c.in-22.is

pub returns-in-23 : goal.returns-in-23
unfolding numbers_of samples_in rows build
returns-in-23 c = row 23 c.args.t c.in-23.is

pub returns-in-24 : goal.returns-in-24
unfolding numbers_of samples_in rows build
returns-in-24 c = row 24 c.args.t c.in-24.is

pub returns-in-25 : goal.returns-in-25
unfolding numbers_of samples_in rows build
returns-in-25 c = row 25 c.args.t c.in-25.is

pub returns-in-26 : goal.returns-in-26
unfolding numbers_of samples_in rows build
returns-in-26 c = row 26 c.args.t c.in-26.is

pub returns-in-27 : goal.returns-in-27
unfolding numbers_of samples_in rows build
returns-in-27 c = row 27 c.args.t c.in-27.is

pub returns-in-28 : goal.returns-in-28
unfolding numbers_of samples_in rows build
returns-in-28 c = row 28 c.args.t c.in-28.is

pub returns-in-29 : goal.returns-in-29
unfolding numbers_of samples_in rows build
returns-in-29 c = row 29 c.args.t c.in-29.is

pub returns-in-30 : goal.returns-in-30
unfolding numbers_of samples_in rows build
returns-in-30 c = row 30 c.args.t c.in-30.is

pub returns-in-31 : goal.returns-in-31
unfolding numbers_of samples_in rows build
returns-in-31 c = row 31 c.args.t c.in-31.is

pub returns-in-32 : goal.returns-in-32
unfolding numbers_of samples_in rows build
returns-in-32 c = row 32 c.args.t c.in-32.is

pub returns-in-33 : goal.returns-in-33
unfolding numbers_of samples_in rows build
returns-in-33 c = row 33 c.args.t c.in-33.is

pub returns-in-34 : goal.returns-in-34
unfolding numbers_of samples_in rows build
returns-in-34 c = row 34 c.args.t c.in-34.is

pub returns-in-35 : goal.returns-in-35
unfolding numbers_of samples_in rows build
returns-in-35 c = row 35 c.args.t c.in-35.is

pub returns-in_default : goal.returns-in_default
unfolding numbers_of rows build
returns-in_default c = above c.args.t (omega arith)
