-- What told at the end told before.
use Rattle.std.proofs.Common.{◌≡◌, ℕ, true, false, List, [], ◌∷◌, ◌++◌, length, Option, Some, None, refl, sym, ap, subst, ◌∙◌, arith, length-append, inl, inr}
use Rattle.std.specs.List.{AllByRecursion}
use Rattle.pgw_frames.specs.Frames.{render}
use Rattle.pgw_messages.specs.declared.params.Pair.{Pair}
use Rattle.pgw_messages.specs.declared.pod_key.PodKey.{PodKey}
use Rattle.proxy_links.specs.Links.{Links, LinkRecord, Came, Failing, HangsUp, record_of, counts_of, hung}
use Rattle.proxy_links.specs.Told.{Grows}
use Rattle.proxy_links.specs.declared.dialer.Dial.{Dial}
use Rattle.proxy_outside.specs.Reading.{Origin}
use Rattle.proxy_outside.specs.Writing.{Target}
use Rattle.proxy_outside.specs.declared.place.Place.{Place}
use Rattle.link_io.specs.Reading.{ReadOn}
use Rattle.session_model.specs.declared.transfer.TransferKey.{TransferKey}
use Rattle.session_trace.specs.Running.{Now}
use Rattle.session_round.specs.Standing.{TellsBytes, Tells}
use Rattle.session_round.proofs.Bytes.{told_front}
use Rattle.transfer_stages.specs.declared.stage.Cut.{Cut}
use Rattle.session_moves.specs.Attempts.{MovesTo, Fails, Refused, StarvesNew, StarvesOld, CutsOld, KeepsOthers}
use Rattle.session_moves.specs.Going.{AttemptsTell}
use Rattle.session_moves.specs.Telling.{GotBytes, TellsLinks, TellsAll}
use Rattle.session_moves.specs.declared.moving.Tried.TheVariants as tried
use Rattle.session_moves.proofs.Lists.{some_is}
use Rattle.session_moves.proofs.OnOldLink.{leaves_got}
use Rattle.session_moves.proofs.Places.{before}

-- ---- the dialer

all_front : (xs ys : List LinkRecord) → AllByRecursion GotBytes (xs ++ ys) → AllByRecursion GotBytes xs
all_front [] ys a = tt
all_front (x ∷ xs) ys a = (a.0, all_front xs ys a.1)

all_back : (xs ys : List LinkRecord) → AllByRecursion GotBytes (xs ++ ys) → AllByRecursion GotBytes ys
all_back [] ys a = a
all_back (x ∷ xs) ys a = all_back xs ys a.1

-- the records before one more, where that one's bytes are told
record Hung (o : Option (List LinkRecord)) (r : List ℕ → List ℕ → LinkRecord) (y : Option (List ℕ)) (all : List LinkRecord) : Type 0 where
  earlier : List LinkRecord
  told : o ≡ Some earlier
  sent : List ℕ
  got : List ℕ
  got_told : y ≡ Some got
  are : all ≡ earlier ++ r sent got ∷ []

hung_before : (o : Option (List LinkRecord)) (r : List ℕ → List ℕ → LinkRecord) (x y : Option (List ℕ)) (all : List LinkRecord) → hung o r x y ≡ Some all → Hung o r y all
hung_before None r x y all e = absurd cc
hung_before (Some rs) r None y all e = absurd cc
hung_before (Some rs) r (Some s) None all e = absurd cc
hung_before (Some rs) r (Some s) (Some g) all e = record { earlier = rs; told = refl; sent = s; got = g; got_told = refl; are = sym (some_is (rs ++ r s g ∷ []) all e) }

-- with one dial more, and these records
tells_less : (old new : Links) (d : Dial) → Grows old.dials new.dials (d ∷ []) → (rs : List LinkRecord) → old.records ≡ Some rs → AllByRecursion GotBytes rs → TellsLinks new → TellsLinks old
tells_less old new d grows rs told bytes t =
    let b = before old.dials new.dials d t.dials grows t.dials_told in
    record {
      dials = b.earlier;
      dials_told = b.told;
      few = let n = ap length b.all in let f = t.few in omega (arith, n, f, length-append b.earlier (d ∷ []));
      hung = rs;
      records_told = told;
      bytes = bytes;
    }

tells_same : (old new : Links) → new ≡ old → TellsLinks new → TellsLinks old
tells_same old new e t = subst TellsLinks e t

tells_failing : (old new : Links) (at : Place) → Failing old new at → TellsLinks new → TellsLinks old
tells_failing old new at f t = tells_less old new (record { place = at; came = false }) f.dials t.hung (sym (ap (λ (l : Links). l.records) f.others) ∙ t.records_told) t.bytes t

-- behind a dial and a link that was hung up
hung_up : (old between new : Links) (at : Place) (k : Target) (s : Origin) (tx : Target) (rx : Origin) → Came old between at k s → (h : HangsUp between new tx rx) → (t : TellsLinks new) → Hung old.records (record_of rx.link h.place (counts_of tx rx)) rx.taken t.hung
hung_up old between new at k s tx rx c h t =
    let r : List ℕ → List ℕ → LinkRecord = record_of rx.link h.place (counts_of tx rx) in
    hung_before old.records r tx.contents rx.taken t.hung
    (ap (λ (v : Option (List LinkRecord)). hung v r tx.contents rx.taken) (sym (ap (λ (l : Links). l.records) c.others)) ∙ sym (ap (λ (l : Links). l.records) h.others) ∙ t.records_told)

tells_hung : (old between new : Links) (at : Place) (k : Target) (s : Origin) (tx : Target) (rx : Origin) → Came old between at k s → HangsUp between new tx rx → TellsLinks new → TellsLinks old
tells_hung old between new at k s tx rx c h t =
    let u = hung_up old between new at k s tx rx c h t in
    let d : Dial = record { place = at; came = true } in
    tells_less old new d (subst (λ (v : Option (List Dial)). Grows old.dials v (d ∷ [])) (sym (ap (λ (l : Links). l.dials) h.others)) c.dials) u.earlier u.told
    (all_front u.earlier (record_of rx.link h.place (counts_of tx rx) u.sent u.got ∷ []) (subst (AllByRecursion GotBytes) u.are t.bytes)) t

-- what the link that was hung up got is bytes
bytes_hung : (old between new : Links) (at : Place) (k : Target) (s : Origin) (tx : Target) (rx : Origin) → Came old between at k s → HangsUp between new tx rx → TellsLinks new → TellsBytes rx.taken
bytes_hung old between new at k s tx rx c h t =
    let u = hung_up old between new at k s tx rx c h t in
    subst TellsBytes (sym u.got_told) (all_back u.earlier (record_of rx.link h.place (counts_of tx rx) u.sent u.got ∷ []) (subst (AllByRecursion GotBytes) u.are t.bytes)).0

-- ---- the halves

read_before : (one two : Origin) (bytes : List ℕ) (idles : ℕ) → ReadOn one two bytes idles → TellsBytes two.taken → TellsBytes one.taken
read_before one two bytes idles r t = told_front one.taken bytes (subst TellsBytes r.taken t)

client_before : (old new : Now) → KeepsOthers old new → TellsBytes new.client_in.taken → TellsBytes old.client_in.taken
client_before old new k t = subst (λ (o : Origin). TellsBytes o.taken) k.client_in t

both : (old new : Now) (links : Links) → KeepsOthers old new → Tells new → TellsBytes old.rx.taken → TellsLinks links → TellsAll old links
both old new links k t pod l = record { halves = record { client = client_before old new k t.client; pod = pod }; dialer = l }

-- ---- by what an attempt came to

module _ (p : List Pair) (patience : ℕ) (at : Place) (key : TransferKey) (links links' : Links) (old new : Now) (kept : KeepsOthers old new) (t : TellsAll new links') where
  refused : Refused key p patience links links' old.rx new.rx → TellsAll old links
  refused r = both old new links kept t.halves (read_before old.rx new.rx (render r.reply.frames) r.reply.heard.idles r.reply.heard.read t.halves.pod) (tells_same links links' r.links_are t.dialer)

  fails : Fails key p patience at links links' old.rx new.rx → TellsAll old links
  fails r =
      let pod = read_before old.rx new.rx (render r.reply.frames) r.reply.heard.idles r.reply.heard.read t.halves.pod in
      elim r.fails [
        | inl failing ↦ both old new links kept t.halves pod (tells_failing links links' at failing t.dialer)
        | inr trial ↦ both old new links kept t.halves pod (tells_hung links trial.between links' at trial.fresh trial.source trial.tx trial.rx trial.came trial.hung t.dialer)
      ]

  starved_new : StarvesNew key p patience at links links' old.rx new.rx → TellsAll old links
  starved_new r = both old new links kept t.halves (read_before old.rx new.rx (render r.reply.frames) r.reply.heard.idles r.reply.heard.read t.halves.pod)
      (tells_hung links r.lost.between links' at r.lost.fresh r.lost.source r.lost.tx r.lost.rx r.lost.came r.lost.hung t.dialer)

  starved_old : StarvesOld key p patience links links' old.rx new.rx → TellsAll old links
  starved_old r = both old new links kept t.halves (read_before old.rx new.rx (render (r.0.so.frames ++ r.0.dropped)) r.0.so.heard.idles r.0.so.heard.read t.halves.pod) (tells_same links links' r.1 t.dialer)

  cuts : (c : Cut) → CutsOld key p patience c links links' old new → TellsAll old links
  cuts c (inl (is, some, unread, same)) = both old new links kept t.halves (subst (λ (o : Origin). TellsBytes o.taken) unread t.halves.pod) (tells_same links links' same t.dialer)
  cuts c (inr (asked, leaves, same)) =
      let got = leaves_got key p patience c old.rx new.rx leaves in
      both old new links kept t.halves (read_before old.rx new.rx got.bytes got.idles got.read t.halves.pod) (tells_same links links' same t.dialer)

  moved : (k : Option PodKey) → MovesTo key p patience at links links' old new k → TellsAll old links
  moved k m = both old new links kept t.halves
      (read_before old.rx m.rx (render m.reply.frames) m.reply.heard.idles m.reply.heard.read (bytes_hung links m.between links' at m.moves.fresh m.moves.source m.tx m.rx m.moves.came m.hung t.dialer))
      (tells_hung links m.between links' at m.moves.fresh m.moves.source m.tx m.rx m.moves.came m.hung t.dialer)

pub attempts_tell : AttemptsTell
attempts_tell p patience at given given' links links' old new (tried.Moved k) tries t = moved p patience at tries.key links links' old new tries.kept t k tries.comes_to
attempts_tell p patience at given given' links links' old new tried.Stayed tries t = elim tries.comes_to.1 [
  | inl r ↦ refused p patience at tries.key links links' old new tries.kept t r
  | inr r ↦ fails p patience at tries.key links links' old new tries.kept t r
]
attempts_tell p patience at given given' links links' old new tried.Starved tries t = elim tries.comes_to.1 [
  | inl r ↦ starved_new p patience at tries.key links links' old new tries.kept t r
  | inr r ↦ starved_old p patience at tries.key links links' old new tries.kept t r
]
attempts_tell p patience at given given' links links' old new (tried.Cut c) tries t = cuts p patience at tries.key links links' old new tries.kept t c tries.comes_to
