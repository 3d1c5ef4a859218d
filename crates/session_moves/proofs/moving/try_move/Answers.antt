use Rattle.session_round.specs.Halves.{now_of}
use Rattle.session_moves.proofs.Cases.{same_links, refused, revival_refused, dial_fault, new_cut, old_cut, no_memory, moved}
use Rattle.session_moves.proofs.moving.try_move.Goals as goal

pub hang_up-requires-clause-same : goal.hang_up-requires-clause-same
hang_up-requires-clause-same g c =
    same_links g.D.Tx.Sink.target g.D.Rx.Source.origin c.draw_key-key.result c.args.params.now c.args.at c.args.patience (g.D.Dialer.links c.args.dialer.now) (g.D.Dialer.links c.transfer.new.dialer)
    (now_of g.S.Source.origin g.K.Sink.target g.D.Tx.Sink.target g.D.Rx.Source.origin c.args.live) (g.D.Tx.Sink.target c.transfer.new.old_tx) (g.D.Rx.Source.origin c.transfer.new.old_rx)
    _ c.requires.alike c.in-Moved.ensures

pub returns-in-Moved : goal.returns-in-Moved
returns-in-Moved g c =
    moved g.D.Tx.Sink.target g.D.Rx.Source.origin c.draw_key-key.result c.args.params.now c.args.at c.args.patience (g.D.Dialer.links c.args.dialer.now) (g.D.Dialer.links c.transfer.new.dialer)
    (now_of g.S.Source.origin g.K.Sink.target g.D.Tx.Sink.target g.D.Rx.Source.origin c.args.live) (g.D.Tx.Sink.target c.transfer.new.old_tx) (g.D.Rx.Source.origin c.transfer.new.old_rx)
    _ _ c.draw_key-key.ensures c.requires.alike c.requires.open _ _ _ _ c.in-Moved.ensures c.hang_up.ensures

pub returns-in-Refused : goal.returns-in-Refused
returns-in-Refused g c =
    refused g.D.Tx.Sink.target g.D.Rx.Source.origin c.draw_key-key.result c.args.params.now c.args.at c.args.patience (g.D.Dialer.links c.args.dialer.now) (g.D.Dialer.links c.transfer.new.dialer)
    (now_of g.S.Source.origin g.K.Sink.target g.D.Tx.Sink.target g.D.Rx.Source.origin c.args.live) (g.D.Tx.Sink.target c.transfer.new.old_tx) (g.D.Rx.Source.origin c.transfer.new.old_rx)
    _ _ c.draw_key-key.ensures c.requires.alike c.requires.open _ c.in-Refused.ensures

pub returns-in-RevivalRefused : goal.returns-in-RevivalRefused
returns-in-RevivalRefused g c =
    revival_refused g.D.Tx.Sink.target g.D.Rx.Source.origin c.draw_key-key.result c.args.params.now c.args.at c.args.patience (g.D.Dialer.links c.args.dialer.now) (g.D.Dialer.links c.transfer.new.dialer)
    (now_of g.S.Source.origin g.K.Sink.target g.D.Tx.Sink.target g.D.Rx.Source.origin c.args.live) (g.D.Tx.Sink.target c.transfer.new.old_tx) (g.D.Rx.Source.origin c.transfer.new.old_rx)
    _ _ c.draw_key-key.ensures c.requires.alike c.requires.open _ c.in-RevivalRefused.ensures

pub returns-in-DialFault : goal.returns-in-DialFault
returns-in-DialFault g c =
    dial_fault g.D.Tx.Sink.target g.D.Rx.Source.origin c.draw_key-key.result c.args.params.now c.args.at c.args.patience (g.D.Dialer.links c.args.dialer.now) (g.D.Dialer.links c.transfer.new.dialer)
    (now_of g.S.Source.origin g.K.Sink.target g.D.Tx.Sink.target g.D.Rx.Source.origin c.args.live) (g.D.Tx.Sink.target c.transfer.new.old_tx) (g.D.Rx.Source.origin c.transfer.new.old_rx)
    _ _ c.draw_key-key.ensures c.requires.alike c.requires.open c.in-DialFault.ensures

pub returns-in-NewCut : goal.returns-in-NewCut
returns-in-NewCut g c =
    new_cut g.D.Tx.Sink.target g.D.Rx.Source.origin c.draw_key-key.result c.args.params.now c.args.at c.args.patience (g.D.Dialer.links c.args.dialer.now) (g.D.Dialer.links c.transfer.new.dialer)
    (now_of g.S.Source.origin g.K.Sink.target g.D.Tx.Sink.target g.D.Rx.Source.origin c.args.live) (g.D.Tx.Sink.target c.transfer.new.old_tx) (g.D.Rx.Source.origin c.transfer.new.old_rx)
    _ _ c.draw_key-key.ensures c.requires.alike c.requires.open _ c.in-NewCut.ensures

pub returns-in-OldCut : goal.returns-in-OldCut
returns-in-OldCut g c =
    old_cut g.D.Tx.Sink.target g.D.Rx.Source.origin c.draw_key-key.result c.args.params.now c.args.at c.args.patience (g.D.Dialer.links c.args.dialer.now) (g.D.Dialer.links c.transfer.new.dialer)
    (now_of g.S.Source.origin g.K.Sink.target g.D.Tx.Sink.target g.D.Rx.Source.origin c.args.live) (g.D.Tx.Sink.target c.transfer.new.old_tx) (g.D.Rx.Source.origin c.transfer.new.old_rx)
    _ _ c.draw_key-key.ensures c.requires.alike c.requires.open _ c.in-OldCut.ensures

pub returns-in-NoMemory : goal.returns-in-NoMemory
returns-in-NoMemory g c =
    no_memory g.D.Tx.Sink.target g.D.Rx.Source.origin c.draw_key-key.result c.args.params.now c.args.at c.args.patience (g.D.Dialer.links c.args.dialer.now) (g.D.Dialer.links c.transfer.new.dialer)
    (now_of g.S.Source.origin g.K.Sink.target g.D.Tx.Sink.target g.D.Rx.Source.origin c.args.live) (g.D.Tx.Sink.target c.transfer.new.old_tx) (g.D.Rx.Source.origin c.transfer.new.old_rx)
    _ _ c.draw_key-key.ensures c.requires.alike c.requires.open c.in-NoMemory.ensures
