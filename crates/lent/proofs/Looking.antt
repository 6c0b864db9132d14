-- The walk of every export that is lent one struct to read, and then any parameters of `Rest`: the struct is looked into, copied out and handed to g
-- by value, with all else, and the borrow is shut. It goes as that of `Storing`, and an export cites `meets` in the same way.
-- Assumes nothing.
use package.types.Logic.{Logic, sem}
use denote.Memory.{hidden_shr}
use denote.Ref.{shr_vals}
use denote.Struct.Laws as laws
use Rattle.lent.proofs.Borrows.{made}
use Rattle.lent.proofs.Structs.{Lent, Whole, row_of, mir_of, vals_of}
use Rattle.lent.proofs.Locals.{Spots, env_in, At, Sits, Goes_on, past, here, next, sits, alloc_all, free_all, gone, from_at, inside}
use Rattle.lent.proofs.Rest.{More, count, Named, then, Has, rows, Passed, spells, tellss, vals, Views, ins, ends, Lasting, lefts, to, back, same_said}
use Rattle.lent.proofs.Rest.{given, fits, go_on, owns_to, lasting, had, lasts_back}
use Rattle.lent.proofs.Params.{shown}
use Rattle.lent.proofs.Handing.{params, with_temps, anew, handed, Temps, temps_env, Stand, stand, cells, alloc_temps, free_temps, pass_all, lent_anew}
use Rattle.lent.proofs.Handing.{hands_on}
use Rattle.lent.proofs.Shapes.{alone, called, function, contract, Met, types, Telling, telling, knowing, answered, by_walk}
use Rattle.lent.proofs.Kit.{refl, ap, ℕ, ◌<◌, ◌^◌, suc, [], ◌∷◌, List, Ura, full_share, Callee, Fn, Ty, w8, ty_int, place, copy, deref, rv_opd, seq}
use Rattle.lent.proofs.Kit.{assign, call, return, local, value_local, Val, vint, SProp, ent, sep, fat, flft, Calls, Loops, WpFn}
use Rattle.lent.proofs.Kit.{Tables, sem, Lfts, Shares, Item, ‵, raw, ◌⊛◌, ⋆, ◌$◌, ◌∵◌, !, qed, by, move, drop, use1, use2, split, join}
use Rattle.lent.proofs.Kit.{rewrite, fsplit, fjoin, feq_i, suffices, frame, done, look, look_raw, init, stop, hop, from, load, of_opd}
use Rattle.lent.proofs.Kit.{and_then, assigns, land, returns, enter, alloc1, alloc0, params1, free0, FmC, fm_of, owns, flat, Is, Are, Ises, shows}
use Rattle.lent.proofs.Kit.{uint_Makes, uint_Lawful, u8, plain, only, looks, shuts, owned, facts, spelt, Args, Vals, alive, on_entry}
use Rattle.lent.proofs.Kit.{Contract, Triple, calls_at, Ended, says, Stays, stay_none_ref, walk_of, Goes-none_ref, ends_at, yes}

module _ (ms : List More) (S : Lent) where
  abbrev pub Says : Type 1
  Says = S.type.D → Views ms → ℕ → Views ms → Type 0

  abbrev asked : Ended
  asked = called ms (row_of S ∷ []) u8

  abbrev asks : Says → Telling asked
  asks P κs a r end = P a.0 (ins (alone ms, κs) a.1) r (ends (alone ms, κs) end.1)

  abbrev pub Asks : {M : Type 1} {𝓤 : Ura M} (𝓛 : Logic 𝓤) → Says → Contract 𝓤
  Asks 𝓛 P = contract asked 𝓛 (asks P)

  abbrev all_of : List More
  all_of = shown (row_of S) ∷ ms

  abbrev lent : Ended
  lent = called all_of [] u8

  abbrev more : Named ms
  more = then (alone all_of)

  abbrev lends : Says → Telling lent
  lends P κs a r end = P a.0.now (ins (more, κs) a.1) r (ends (more, κs) end.1)

  -- the locals: the answer, the pointer and the rest, the copy, what is lent anew
  abbrev copied : ℕ
  copied = past (params ms 1) 2

  abbrev code : Callee → Fn
  code g =
      function all_of (local (mir_of S) value_local ∷ with_temps ms [])
      (seq (assign (place copied []) (rv_opd (copy (place 1 (deref (mir_of S) ∷ [])))))
      (anew ms 2 (suc copied) (seq (call g (copy (place copied []) ∷ handed ms 2 (suc copied)) (place 0 [])) return)))

  module _ (l0 : ℕ) (bs : Spots (params all_of 0)) (l2 : ℕ) (ts : Temps ms) where
    abbrev inner : List (Ty × ℕ)
    inner = (mir_of S, l2) ∷ temps_env ms ts []

    abbrev env : List (Ty × ℕ)
    env = (ty_int w8, l0) ∷ env_in (params all_of 0) bs inner

    found : At env copied (mir_of S) l2 × Sits env 2 (params ms 1) bs.1 × Stand env (suc copied) ms ts
    found =
        let p : Sits env 2 (params ms 1) bs.1 × Goes_on env copied inner = sits (params ms 1) bs.1 env 2 refl in
        (here env copied p.1, p.0, (stand ms ts env (suc copied) (next env copied p.1)).0)

  abbrev stayed : Stays lent.signature.params lent.kept
  stayed = (stay_none_ref (0 ∷ []) tt (plain (λ _. row_of S)) yes, given more)

  module _ {M : Type 1} {𝓤 : Ura M} (𝓛 : Logic 𝓤) (P : Says) (κs : Lfts (count all_of)) (qs : Shares (count all_of))
      (a : Args lent.signature κs) where
    open 𝓛 use {H}

    abbrev F : Has ms
    F = (more, κs)

    abbrev G : Has ms
    G = (alone ms, κs.1)

    abbrev x : Passed F
    x = a.1

    abbrev y : Passed G
    y = to F G x

    abbrev was : S.type.D
    was = a.0.now

    abbrev at : Vals lent.signature κs
    at = vals (alone all_of, κs) a

    abbrev Post : Val → SProp 𝓤
    Post = (walk_of 𝓛 lent stayed (telling lent 𝓤 (lends P))).post ((κs, qs, tt, a, at), tt)

    abbrev to_callee : (Asks 𝓛 P).Ghost
    to_callee = ((κs.1, qs.1, tt, (was, y), (vals_of S was, vals G y)), tt)

    abbrev Tokens : SProp 𝓤
    Tokens = alive 𝓛 asked.signature κs.1 qs.1

    goes_in : Whole S was → ent 𝓤 (sep 𝓤 Tokens (sem 𝓛 (owns (rows F) x (vals F x)))) ((Asks 𝓛 P).pre to_callee)
    goes_in k =
        qed 𝓛 (raw Tokens ∷ ‵ (owns (rows F) x (vals F x)) ∷ []) ∵ move ! (1 ∷ []) $
        use1 𝓛 (‵ (owns (rows G) y (vals G y))) (owns_to 𝓛 F G refl x) $
        made ! S was k $ fjoin ! $ move ! (1 ∷ 0 ∷ []) $ join ! $ frame ! $ done !

    -- what is had at the end
    abbrev Had : Lasting G y → List (Item 𝓤)
    Had z =
        ‵ (flft κs.0 qs.0) ∷ ‵ (lasting G y z) ∷ raw Tokens ∷ ‵ (hidden_shr (row_of S) κs.0 was a.0.ref_ptr.0 a.0.ref_ptr.1) ∷ []

    exits : (r : ℕ) (z : Lasting G y) → P was (ins G y) r (ends G (lefts G y z)) → r < 2 ^ 8
        → ent 𝓤 (⋆ 𝓛 (Had z)) (Post (vint w8 r))
    exits r z e small =
        qed 𝓛 (Had z) ∵
        suffices ! _ (ends_at 𝓛 lent stayed (telling lent 𝓤 (lends P)) ((κs, qs, tt, a, at), tt) (vint w8 r) r (tt, back F G x z)
        (tt, fits F x (back F G x z))) $
        says ! (same_said F G (λ v w. P was v r w) x z e) $ move ! (0 ∷ 2 ∷ []) $ join ! $ frame ! $
        use1 𝓛 (‵ (had F x (back F G x z))) (lasts_back 𝓛 F G refl x z) $ move ! (1 ∷ []) $
        feq_i ! (List Val) (shr_vals a.0) (shr_vals a.0) refl $ fjoin ! $ fjoin ! $ frame ! $
        owned ! u8 (Is u8) (uint_Makes 𝓛 w8) r _ (refl, small) $ done !

    walk : (g : Callee) (C : Calls 𝓤 H) (Λ : Loops 𝓤 H) → FmC 𝓤 H 𝓛.laws C → Triple 𝓤 (C g) (Asks 𝓛 P) → Are (types lent κs) (Ises (types lent κs)) a at
        → ent 𝓤 (on_entry 𝓛 lent.signature κs qs a at) (WpFn 𝓤 H C Λ (code g) (flat (types lent κs) at) Post)
    walk g C Λ fm known are =
        qed 𝓛 ((‵ (flft κs.0 qs.0) ⊛ raw Tokens) ∷ ‵ (owns (types lent κs) a at) ∷ []) ∵ enter ! C Λ (code g) (flat (types lent κs) at) _ $
        alloc1 ! (λ l0. alloc_all ! (params all_of 0) _ (λ bs. alloc1 ! (λ l2. alloc_temps ! ms _ (λ ts. alloc0 ! $ params1 ! $
        move ! (3 ∷ []) $ pass_all ! (inner l0 bs l2 ts) (alone all_of, κs) bs a are $ split ! $ split ! $
        move ! (9 ∷ []) $ fsplit ! $ fsplit ! $ drop ! $ move ! (10 ∷ []) $ split ! $
        -- [the token; the tokens of the rest; the struct's borrow; what the rest owns; the locals]
        move ! (2 ∷ 0 ∷ []) $
        looks ! tt (row_of S) ((laws.copied S.type S.the_copy 𝓛).opens) was a.0.ref_ptr.0 a.0.ref_ptr.1 (λ q v.
        spelt ! (row_of S) (Is (row_of S)) (shows 𝓛 (row_of S)) (vals_of S) (laws.tells S.type S.the_laws) q was v a.0.ref_ptr.0 a.0.ref_ptr.1 $
        move ! (1 ∷ []) $ facts ! (row_of S) (Is (row_of S)) (shows 𝓛 (row_of S)) was (vals_of S was) (λ k. knowing ! (found l0 bs l2 ts) (λ at-l.
        -- [its cell, way back, borrow; the tokens of the rest; what the rest owns; the pointer, the rest's locals, what is lent anew, the copy,
        -- the answer]
        assigns ! (of_opd ! (load ! (from ! (hop ! (look ! 5 refl) (stop !))) (look_raw ! 0 refl))) (from_at ! at-l.0 (stop !))
        (init ! 9 refl ((laws.lawful S.type S.the_laws 𝓛).typed was _ k).0) $
        move ! (7 ∷ 8 ∷ []) $ lent_anew ! F 2 (suc copied) bs.1 ts x are.1 at-l.1 at-l.2 $
        move ! (5 ∷ 6 ∷ []) $ use2 𝓛 (raw ((Asks 𝓛 P).pre to_callee)) (goes_in k) $
        -- [what g asks for; the rest's locals, what is lent anew; the struct's cell, way back, borrow; the other locals]
        calls_at ! fm (Asks 𝓛 P) known to_callee
        (and_then ! (load ! (from_at ! at-l.0 (stop !)) (look ! 8 refl))
        (hands_on ! F G 2 (suc copied) bs.1 ts x at-l.1 at-l.2 (inside ! 1) (inside ! 2)))
        (λ w. answered asked ! tt (asks P) to_callee.0 w (λ r zs e. fsplit ! $ drop ! $ move ! (1 ∷ []) $
        facts ! u8 (Is u8) (shows 𝓛 u8) r (w ∷ []) (λ is.
        land ! (from ! (stop !)) (init ! 11 refl ((uint_Lawful 𝓛 w8).typed r _ is).0) $
        rewrite ! 11 (λ (u : Val). ‵ (fat full_share (ty_int w8) l0 0 u)) (ap only is.0) refl $
        made ! S was k $ move ! (5 ∷ 0 ∷ 6 ∷ []) $ shuts ! tt (row_of S) q was (vals_of S was) a.0.ref_ptr.0 a.0.ref_ptr.1 $
        -- [the token; the last values of the rest; their tokens, locals, what is lent anew; the struct's borrow; the other locals]
        returns ! (look ! 10 refl) $ move ! (10 ∷ 11 ∷ 6 ∷ 7 ∷ 3 ∷ 8 ∷ 9 ∷ 4 ∷ []) $ gone ! $ gone ! $
        free_all ! (params ms 1) bs.1 (cells F x) $ gone ! $ free_temps ! F ts x $ free0 ! $
        by ! (exits r zs.1 e is.1)))))))))))

  pub meets : {M : Type 1} {𝓤 : Ura M} (𝓛 : Logic 𝓤) (P : Says) (g : Callee) (𝓣 : Tables 𝓤 𝓛.H) → Triple 𝓤 (𝓣.C g) (Asks 𝓛 P)
      → Met lent 𝓛 (lends P) 𝓣 (code g)
  meets {𝓤 = 𝓤} 𝓛 P g 𝓣 known =
      by_walk lent 𝓛 (lends P) 𝓣 (code g) stayed (Goes-none_ref 𝓛 more.n (0 ∷ []) tt (plain (λ _. row_of S)) yes, go_on 𝓛 more)
      (λ κs. spells (alone all_of, κs)) (λ κs. tellss (alone all_of, κs))
      (λ κs qs bounds a are. walk 𝓛 P κs qs a g 𝓣.C 𝓣.Λ (fm_of 𝓤 𝓛.H 𝓛.laws 𝓣) known are)
