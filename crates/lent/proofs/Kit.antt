-- What the walks name of the logic that comes with the tools, passed on to them.
-- Assumes nothing.
pub use mathlib.Core.Path.{◌≡◌, refl, sym, ap, subst}
pub use Prim.Native.Nat.{ℕ, suc, ◌<◌, ◌^◌}
pub use mathlib.Core.List.{[], ◌∷◌, ◌++◌, List}
pub use seplogic.Ra.Ura.{Ura}
pub use base.Fraction.{full_share}
pub use mir.Syntax.{Callee, Fn, Ty, Local, Body as Statements, w8, ty_int, ty_bool, place, copy, deref, field, rv_opd, op2, eq, int, cond, skip, seq, assign}
pub use mir.Syntax.{call, return, local, value_local}
pub use mir.Val.{Val, vint}
pub use base.Logic.{SProp, ent, sep, emp, via, fst∗, id⊢}
pub use base.Fml.{fat, flft, fres, fshr_bor}
pub use prog.Wp.{Heap, Calls, Loops, WpFn, Tables}
pub use ghost.Atoms.{Atoms}
pub use types.Logic.{sem}
pub use contract.Lifetimes.{Lfts, Shares, AllOutlive}
pub use contract.Monad.{fact}
pub use types.Kit.{Goal, Soaks, Seq, Item, at_ret, ‵, raw, some, later, ◌⊛◌, ⋆, ◌$◌, ◌∵◌, !, qed, by, move, drop, use1, use2, split, split3, join}
pub use types.Kit.{pick, rewrite, fsplit, fsplit3, fjoin, fjoin3, feq_i, suffices, frame, await, done}
pub use types.Run.{look, look_raw, init, store_raw, stop, hop, fld, from, load, of_opd, bin, lit, and_then, assigns, assigns_last, first, branches, skips}
pub use types.Run.{exec, land, returns, enter, alloc1, alloc0, params1, free0}
pub use types.Part.{whole, sub, look_in}
pub use sound.WpLaws.{FmC, fm_of, WpFn-mono}
pub use denote.RattleType.{RattleType, owns, flat}
pub use denote.Laws.{Is, Are, Ises, Spells, valss, Tellss, shows}
pub use denote.Memory.{part_at}
pub use denote.Plain.{uint_Makes, uint_Lawful}
pub use denote.Builtin.{u8}
pub use denote.Ref.{shr_vals, mut_vals}
pub use denote.Signature.{Slot, plain, type_at, types_at}
pub use denote.Steps.{only, looks, shuts, owned, facts, heard}
pub use denote.Struct.Steps.{spelt}
pub use denote.Triple.Entry.{Args, Vals, Res, alive, on_entry}
pub use denote.Triple.Bound.{Bound}
pub use denote.Triple.End.{all}
pub use denote.Triple.Spec.{Meets, triple_of}
pub use denote.Triple.Statement.{Contract, Triple}
pub use denote.Triple.Call.{calls_at}
pub use denote.Triple.Clauses.{Ended, Clauses, closing, Lasts, AtExit, at_exit, ensured, lasts}
pub use denote.Triple.Walked.{says, Stays, stay_ref, stay_none_ref, walk_of, Goes-ref, Goes-none_ref, AllGo, ends_at, walked, walk_Meets}
pub use denote.Exit.{yes}
