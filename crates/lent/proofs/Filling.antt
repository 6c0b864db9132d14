-- The walk of every export that is lent one struct to change, and then any parameters of `Rest`. It goes as that of `Storing`, and an export cites
-- `meets` in the same way.
-- Assumes nothing.
use denote.Struct.Laws as laws
use Rattle.lent.proofs.Borrows.{behind, opened, shut, again, made}
use Rattle.lent.proofs.Structs.{fit, Lent, Outcome, Whole, row_of, mir_of, vals_of, type_of, out_row, out_mir, outcome_laws, off_0}
use Rattle.lent.proofs.Locals.{Spots, env_in, At, Sits, Goes_on, past, here, next, sits, alloc_all, free_all, gone, from_at, inside}
use Rattle.lent.proofs.Rest.{More, count, Named, then, Has, rows, Passed, spells, tellss, vals, Views, ins, ends, Lasting, lefts, to, back, same_said}
use Rattle.lent.proofs.Rest.{given, fits, go_on, owns_to, lasting, had, lasts_back}
use Rattle.lent.proofs.Params.{fills}
use Rattle.lent.proofs.Handing.{params, with_temps, anew, handed, past_temps, Temps, temps_env, Stand, stand, cells, alloc_temps, free_temps}
use Rattle.lent.proofs.Handing.{pass_all, lent_anew, hands_on}
use Rattle.lent.proofs.Shapes.{alone, called, function, answers, tested, contract, Met, types, Telling, telling, knowing, answered, by_walk}
use Rattle.lent.proofs.Kit.{◌≡◌, refl, sym, ap, subst, ℕ, ◌<◌, ◌^◌, suc, [], ◌∷◌, List, Ura, full_share, Callee, Fn, Ty, w8, ty_int, ty_bool, place, copy}
use Rattle.lent.proofs.Kit.{deref, field, rv_opd, seq, assign, call, local, value_local, Val, vint, SProp, ent, sep, fat, flft, Calls, Loops}
use Rattle.lent.proofs.Kit.{WpFn, Tables, sem, Lfts, Shares, Item, at_ret, ‵, raw, ◌⊛◌, ⋆, ◌$◌, ◌∵◌, !, qed, by, move, drop, use1, use2}
use Rattle.lent.proofs.Kit.{split, join, rewrite, fsplit, fsplit3, fjoin, suffices, frame, done, look, look_raw, init, store_raw, stop, hop, fld}
use Rattle.lent.proofs.Kit.{from, load, of_opd, bin, lit, and_then, assigns, assigns_last, first, branches, skips, exec, land, returns, enter, alloc1}
use Rattle.lent.proofs.Kit.{alloc0, params1, free0, whole, sub, look_in, FmC, fm_of, owns, flat, Is, Are, Ises, shows, uint_Makes, u8, plain, only}
use Rattle.lent.proofs.Kit.{owned, facts, Args, Vals, alive, on_entry, Contract, Triple, calls_at, Ended, says, Stays, stay_ref, walk_of, Goes-ref}
use Rattle.lent.proofs.Kit.{ends_at}
use package.types.Logic.{Logic, sem}

module _ (ms : List More) (R : Lent) (O : Outcome (R ∷ [])) where
  abbrev pub Says : Type 1
  Says = R.type.D → Views ms → O.D → Views ms → Type 0

  abbrev pub Keeps : Says → Type 0
  Keeps P = (t : R.type.D) (v : Views ms) (r : O.D) (w : Views ms) → P t v r w → ((O.values r).0 ≡ 0 → ⊥) → r ≡ O.make ((O.values r).0, (t, tt))

  abbrev asked : Ended
  asked = called ms (row_of R ∷ []) (out_row O)

  abbrev asks : Says → Telling asked
  asks P κs a r end = P a.0 (ins (alone ms, κs) a.1) r (ends (alone ms, κs) end.1)

  abbrev pub Asks : {M : Type 1} {𝓤 : Ura M} (𝓛 : Logic 𝓤) → Says → Contract 𝓤
  Asks 𝓛 P = contract asked 𝓛 (asks P)

  abbrev all_of : List More
  all_of = fills (row_of R) ∷ ms

  abbrev lent : Ended
  lent = called all_of [] u8

  abbrev more : Named ms
  more = then (alone all_of)

  abbrev lends : Says → Telling lent
  lends P κs a r end = P a.0.now (ins (more, κs) a.1) (O.make (r, (end.0.now, tt))) (ends (more, κs) end.1)

  -- the locals: the answer, the pointer and the rest, what comes back, the copy, what is lent anew, the test
  abbrev out : ℕ
  out = past (params ms 1) 2

  abbrev temps : ℕ
  temps = suc (suc out)

  abbrev code : Callee → Fn
  code g =
      function all_of (local (out_mir O) value_local ∷ local (mir_of R) value_local ∷ with_temps ms (local ty_bool value_local ∷ []))
      (seq (assign (place (suc out) []) (rv_opd (copy (place 1 (deref (mir_of R) ∷ [])))))
      (anew ms 2 temps
      (seq (call g (copy (place (suc out) []) ∷ handed ms 2 temps) (place out []))
      (tested out (past_temps ms temps) (assign (place 1 (deref (mir_of R) ∷ [])) (rv_opd (copy (place out (field 1 ∷ [])))))))))

  module _ (l0 : ℕ) (bs : Spots (params all_of 0)) (l2 l3 : ℕ) (ts : Temps ms) (l4 : ℕ) where
    abbrev inner : List (Ty × ℕ)
    inner = (out_mir O, l2) ∷ (mir_of R, l3) ∷ temps_env ms ts ((ty_bool, l4) ∷ [])

    abbrev env : List (Ty × ℕ)
    env = (ty_int w8, l0) ∷ env_in (params all_of 0) bs inner

    found : At env out (out_mir O) l2 × At env (suc out) (mir_of R) l3 × Sits env 2 (params ms 1) bs.1 × Stand env temps ms ts
        × At env (past_temps ms temps) ty_bool l4
    found =
        let p : Sits env 2 (params ms 1) bs.1 × Goes_on env out inner = sits (params ms 1) bs.1 env 2 refl in
        let s : Goes_on env (suc out) _ = next env out p.1 in
        let u : Stand env temps ms ts × Goes_on env (past_temps ms temps) _ = stand ms ts env temps (next env (suc out) s) in
        (here env out p.1, here env (suc out) s, p.0, u.0, here env (past_temps ms temps) u.1)

  abbrev stayed : Stays lent.signature.params lent.kept
  stayed = (stay_ref (0 ∷ []) tt (plain (λ _. row_of R)), given more)

  module _ {M : Type 1} {𝓤 : Ura M} (𝓛 : Logic 𝓤) (P : Says) (keeps : Keeps P) (κs : Lfts (count all_of))
      (qs : Shares (count all_of)) (a : Args lent.signature κs) where
    open 𝓛 use {H}

    abbrev was : R.type.D
    was = a.0.now

    abbrev F : Has ms
    F = (more, κs)

    abbrev x : Passed F
    x = a.1

    abbrev G : Has ms
    G = (alone ms, κs.1)

    abbrev y : Passed G
    y = to F G x

    abbrev at : Vals lent.signature κs
    at = vals (alone all_of, κs) a

    abbrev to_callee : (Asks 𝓛 P).Ghost
    to_callee = ((κs.1, qs.1, tt, (was, y), (vals_of R was, vals G y)), tt)

    abbrev Tokens : SProp 𝓤
    Tokens = alive 𝓛 asked.signature κs.1 qs.1

    abbrev Post : Val → SProp 𝓤
    Post = (walk_of 𝓛 lent stayed (telling lent 𝓤 (lends P))).post ((κs, qs, tt, a, at), tt)

    goes_in : Whole R was → ent 𝓤 (sep 𝓤 Tokens (sem 𝓛 (owns (rows F) x (vals F x)))) ((Asks 𝓛 P).pre to_callee)
    goes_in k =
        qed 𝓛 (raw Tokens ∷ ‵ (owns (rows F) x (vals F x)) ∷ []) ∵ move ! (1 ∷ []) $
        use1 𝓛 (‵ (owns (rows G) y (vals G y))) (owns_to 𝓛 F G refl x) $
        made ! R was k $ fjoin ! $ move ! (1 ∷ 0 ∷ []) $ join ! $ frame ! $ done !

    -- what is had at the end, with t behind the pointer and the rest as g left it
    module _ (t : R.type.D) (z : Lasting G y) where
      abbrev Had : List (Item 𝓤)
      Had = behind R a.0 κs.0 qs.0 t (‵ (lasting G y z) ∷ raw Tokens ∷ [])

      exits : (r : O.D) → r ≡ O.make ((O.values r).0, (t, tt)) → P was (ins G y) r (ends G (lefts G y z)) → (O.values r).0 < 2 ^ 8
          → ent 𝓤 (⋆ 𝓛 Had) (Post (vint w8 (O.values r).0))
      exits r same e small =
          qed 𝓛 Had ∵
          suffices ! _ (ends_at 𝓛 lent stayed (telling lent 𝓤 (lends P)) ((κs, qs, tt, a, at), tt) (vint w8 (O.values r).0) (O.values r).0
          (t, back F G x z) (tt, fits F x (back F G x z))) $
          says ! (same_said F G (λ v w. P was v (O.make ((O.values r).0, (t, tt))) w) x z
          (subst (λ (u : O.D). P was (ins G y) u (ends G (lefts G y z))) same e)) $
          move ! (2 ∷ 4 ∷ []) $ join ! $ frame ! $ move ! (2 ∷ []) $ use1 𝓛 (‵ (had F x (back F G x z))) (lasts_back 𝓛 F G refl x z) $
          move ! (1 ∷ 2 ∷ []) $ again R a.0 ! $ fjoin ! $ frame ! $ owned ! u8 (Is u8) (uint_Makes 𝓛 w8) (O.values r).0 _ (refl, small) $ done !

    walk : (g : Callee) (C : Calls 𝓤 H) (Λ : Loops 𝓤 H) → FmC 𝓤 H 𝓛.laws C → Triple 𝓤 (C g) (Asks 𝓛 P) → Are (types lent κs) (Ises (types lent κs)) a at
        → ent 𝓤 (on_entry 𝓛 lent.signature κs qs a at) (WpFn 𝓤 H C Λ (code g) (flat (types lent κs) at) Post)
    walk g C Λ fm known are =
        qed 𝓛 ((‵ (flft κs.0 qs.0) ⊛ raw Tokens) ∷ ‵ (owns (types lent κs) a at) ∷ []) ∵ enter ! C Λ (code g) (flat (types lent κs) at) _ $
        alloc1 ! (λ l0. alloc_all ! (params all_of 0) _ (λ bs. alloc1 ! (λ l2. alloc1 ! (λ l3. alloc_temps ! ms _ (λ ts. alloc1 ! (λ l4.
        alloc0 ! $ params1 ! $ move ! (7 ∷ []) $ pass_all ! (inner l0 bs l2 l3 ts l4) (alone all_of, κs) bs a are $ split ! $ split ! $
        move ! (13 ∷ []) $ fsplit ! $ fsplit3 ! $ drop ! $ move ! (15 ∷ []) $ split ! $
        -- [the token; the tokens of the rest; the struct's obs and borrow; what the rest owns; the locals]
        move ! (2 ∷ 3 ∷ 0 ∷ []) $ opened R a.0 was ! tt (λ k. knowing ! (found l0 bs l2 l3 ts l4) (λ at-l.
        -- [its cell, open borrow, obs, auth; the tokens of the rest; what they own; the rest's locals, the test, what is lent anew, the copy, what
        -- comes back, the pointer, the answer]
        assigns ! (of_opd ! (load ! (from ! (hop ! (look ! 6 refl) (stop !))) (look_raw ! 0 refl))) (from_at ! at-l.1 (stop !))
        (init ! 12 refl ((laws.lawful R.type R.the_laws 𝓛).typed was _ k).0) $
        move ! (8 ∷ 11 ∷ []) $ lent_anew ! F 2 temps bs.1 ts x are.1 at-l.2 at-l.3 $
        move ! (6 ∷ 7 ∷ []) $ use2 𝓛 (raw ((Asks 𝓛 P).pre to_callee)) (goes_in k) $
        calls_at ! fm (Asks 𝓛 P) known to_callee
        (and_then ! (load ! (from_at ! at-l.1 (stop !)) (look ! 11 refl))
        (hands_on ! F G 2 temps bs.1 ts x at-l.2 at-l.3 (inside ! 1) (inside ! 2)))
        (λ w. answered asked ! tt (asks P) to_callee.0 w (λ r zs e. fsplit ! $ drop ! $ move ! (1 ∷ []) $
        facts ! (out_row O) (Is (out_row O)) (shows 𝓛 (out_row O)) r (w ∷ []) (λ is. knowing ! (laws.owed (type_of O) (outcome_laws O) r _ is) (λ own.
        -- [the last values of the rest; their tokens, locals, what is lent anew; the struct's four; the other locals]
        land ! (from_at ! at-l.0 (stop !)) (init ! 14 refl ((laws.lawful (type_of O) (outcome_laws O) 𝓛).typed r _ is).0) $
        rewrite ! 14 (λ (u : Val). ‵ (fat full_share (out_mir O) l2 0 u)) (ap only (laws.tells (type_of O) (outcome_laws O) r _ is)) refl $
        assigns ! (bin ! (load ! (from_at ! at-l.0 (fld ! refl (stop !))) (look_in ! 14 (sub ! 0 refl (whole !)))) (lit ! tt) tt)
        (from_at ! at-l.4 (stop !)) (init ! 10 refl (tt, tt)) $ first ! $ branches ! (load ! (from_at ! at-l.4 (stop !)) (look ! 10 refl))
        -- the answer is 0: it is stored
        (λ on.
        assigns_last ! (of_opd ! (load ! (from_at ! at-l.0 (fld ! refl (stop !))) (look_in ! 14 (sub ! 1 refl (whole !)))))
        (from ! (hop ! (look ! 8 refl) (stop !))) (store_raw ! 4 refl ((laws.lawful R.type R.the_laws 𝓛).typed _ _ own.1.0).0) $
        exec ! C Λ (env l0 bs l2 l3 ts l4) (answers out) (at_ret (env l0 bs l2 l3 ts l4) Post) $
        assigns ! (of_opd ! (load ! (from_at ! at-l.0 (fld ! refl (stop !))) (look_in ! 14 (sub ! 0 refl (whole !))))) (from ! (stop !))
        (init ! 16 refl (tt, fit own.0.1)) $ move ! (4 ∷ 5 ∷ 6 ∷ 7 ∷ []) $
        shut R a.0 (O.values r).1.0 ! tt own.1.0 $
        returns ! (look ! 15 refl) $ move ! (15 ∷ 16 ∷ 7 ∷ 8 ∷ 5 ∷ 13 ∷ 14 ∷ 11 ∷ 12 ∷ 6 ∷ 9 ∷ 10 ∷ []) $ gone ! $ gone ! $
        free_all ! (params ms 1) bs.1 (cells F x) $ gone ! $ gone ! $ free_temps ! F ts x $ gone ! $ free0 ! $
        by ! (exits (O.values r).1.0 zs.1 r (sym (O.eta r)) e own.0.1))
        -- it isn't: it stays as it was
        (λ off. skips ! $ exec ! C Λ (env l0 bs l2 l3 ts l4) (answers out) (at_ret (env l0 bs l2 l3 ts l4) Post) $
        assigns ! (of_opd ! (load ! (from_at ! at-l.0 (fld ! refl (stop !))) (look_in ! 14 (sub ! 0 refl (whole !))))) (from ! (stop !))
        (init ! 16 refl (tt, fit own.0.1)) $ move ! (4 ∷ 5 ∷ 6 ∷ 7 ∷ []) $ shut R a.0 was ! tt k $
        returns ! (look ! 15 refl) $ move ! (15 ∷ 16 ∷ 7 ∷ 8 ∷ 5 ∷ 13 ∷ 14 ∷ 11 ∷ 12 ∷ 6 ∷ 9 ∷ 10 ∷ []) $ gone ! $ gone ! $
        free_all ! (params ms 1) bs.1 (cells F x) $ gone ! $ gone ! $ free_temps ! F ts x $ gone ! $ free0 ! $
        by ! (exits was zs.1 r (keeps was _ r _ e (off_0 off)) e own.0.1))))))))))))))

  pub meets : {M : Type 1} {𝓤 : Ura M} (𝓛 : Logic 𝓤) (P : Says) → Keeps P → (g : Callee) (𝓣 : Tables 𝓤 𝓛.H)
      → Triple 𝓤 (𝓣.C g) (Asks 𝓛 P) → Met lent 𝓛 (lends P) 𝓣 (code g)
  meets {𝓤 = 𝓤} 𝓛 P keeps g 𝓣 known =
      by_walk lent 𝓛 (lends P) 𝓣 (code g) stayed (Goes-ref 𝓛 more.n 0 tt (plain (λ _. row_of R)), go_on 𝓛 more)
      (λ κs. spells (alone all_of, κs)) (λ κs. tellss (alone all_of, κs))
      (λ κs qs bounds a are. walk 𝓛 P keeps κs qs a g 𝓣.C 𝓣.Λ (fm_of 𝓤 𝓛.H 𝓛.laws 𝓣) known are)
